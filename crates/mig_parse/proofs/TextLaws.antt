-- The declarations of a text are one list, and its fault is one.
use Rattle.std.proofs.Common.{◌≡◌, ◌≤◌, ◌<◌, ◌⊎◌, inl, inr, ℕ, ◌+◌, List, [], ◌∷◌, Option, Some, None, ◌++◌, length, drop, get_or, sym, ap, subst, ◌∙◌, refl, append-nil, length-append, length-take-le, map, take, take-append-drop, Bor, arith}
use Rattle.std.proofs.lemmas.List.{map-append, length-map, take_more, drop_more}
use Rattle.std.specs.Prelude.{MatchOption}
use Rattle.std.specs.List.{AllByRecursion}
use Rattle.mig_token.specs.Token.{Tok}
use Rattle.mig_token.specs.Lexical.{IsWhite}
use Rattle.mig_token.specs.Cuts.{Cuts}
use Rattle.mig_lex.proofs.Cutting.{one_cut}
use Rattle.mig_lex.proofs.Sequences.{one_reading}
use Rattle.mig_syntax.specs.DeclSyntax.{DeclSyntax}
use Rattle.mig_syntax.specs.DeclView.{decl_of}
use Rattle.mig_syntax.specs.declared.decl.Decl.{Decl}
use Rattle.mig_parse.specs.Grammar.{Declaration}
use Rattle.mig_parse.specs.Text.{IsDeclared, AreDeclared, IsUndeclared, IsChainText, IsFirstUndeclared, IsUnended, IsUndeclaredAt}
use Rattle.mig_parse.specs.Law.{HasOneSyntax, FaultExcludes, HasOneFault}
use Rattle.mig_parse.specs.declared.fault.ParseFault.TheVariants as faults
use Rattle.mig_parse.proofs.DeclarationLaws.{one_declaration}

pub one_declared : (piece : List ℕ) (d e : DeclSyntax) → IsDeclared piece d → IsDeclared piece e → d ≡ e
one_declared piece d e p q = one_declaration p.0 d e p.2 (subst (λ (ts : List Tok). Declaration ts e) (one_reading piece q.0 p.0 q.1 p.1) q.2)

-- ---- a list of pieces
pub one_list : (bs : List (List ℕ)) (ds es : List DeclSyntax) → AreDeclared bs ds → AreDeclared bs es → ds ≡ es
one_list [] [] [] p q = refl
one_list [] [] (e ∷ es) p q = absurd q
one_list [] (d ∷ ds) es p q = absurd p
one_list (b ∷ bs) [] es p q = absurd p
one_list (b ∷ bs) (d ∷ ds) [] p q = absurd q
one_list (b ∷ bs) (d ∷ ds) (e ∷ es) p q =
    let here = one_declared b d e p.0 q.0 in
    let more = one_list bs ds es p.1 q.1 in
    λ i. here i ∷ more i

-- declared pieces at the front are no more than those before one that isn't
within : (a b more behind : List (List ℕ)) (piece : List ℕ) (ds : List DeclSyntax) → AreDeclared a ds → a ++ more ≡ b ++ piece ∷ behind → IsUndeclared piece → length a ≤ length b
within [] b more behind piece ds p e u = omega arith
within (x ∷ a) b more behind piece [] p e u = absurd p
within (x ∷ a) [] more behind piece (d ∷ ds) p e u = absurd (u d (subst (λ (y : List ℕ). IsDeclared y d) (ap (λ (l : List (List ℕ)). get_or l 0 piece) e) p.0))
within (x ∷ a) (y ∷ b) more behind piece (d ∷ ds) p e u = omega (arith, within a b more behind piece ds p.1 (ap (drop 1) e) u)

below : (pieces a more : List (List ℕ)) (ds : List DeclSyntax) (k : ℕ) → AreDeclared a ds → pieces ≡ a ++ more → IsFirstUndeclared pieces k → length a < k
below pieces a more ds k p e f =
    let n = f.number in
    omega (arith, n, within a f.before more f.behind f.piece ds p (sym e ∙ f.whole) f.undeclared)

not_all : (pieces : List (List ℕ)) (ds : List DeclSyntax) (k : ℕ) → AreDeclared pieces ds → IsFirstUndeclared pieces k → ⊥
not_all pieces ds k p f =
    let whole = ap length f.whole ∙ length-append f.before (f.piece ∷ f.behind) in
    let n = f.number in
    let few = below pieces pieces [] ds k p (sym (append-nil pieces)) f in
    omega (arith, whole, n, few)

not_above : (pieces : List (List ℕ)) (j k : ℕ) → IsFirstUndeclared pieces j → IsFirstUndeclared pieces k → j ≤ k
not_above pieces j k f g =
    let n = f.number in
    omega (arith, n, below pieces f.before (f.piece ∷ f.behind) f.declarations k f.each f.whole g)

-- ---- a text
pub one_syntax : HasOneSyntax
one_syntax text ds es x y =
    let same = one_cut text y.pieces x.pieces y.rest x.rest y.cuts x.cuts in
    one_list x.pieces ds es x.each (subst (λ (ps : List (List ℕ)). AreDeclared ps es) same.0 y.each)

pub found_in : (text : List ℕ) (pieces : List (List ℕ)) (rest : List ℕ) (ds : List DeclSyntax) → Cuts text pieces rest → IsChainText text ds → AreDeclared pieces ds × AllByRecursion IsWhite rest
found_in text pieces rest ds cuts x =
    let same = one_cut text x.pieces pieces x.rest rest x.cuts cuts in
    (subst (λ (ps : List (List ℕ)). AreDeclared ps ds) same.0 x.each, subst (AllByRecursion IsWhite) same.1 x.blank)

unread : (text : List ℕ) (k : ℕ) (ds : List DeclSyntax) → IsUndeclaredAt text k → IsChainText text ds → ⊥
unread text k ds f x =
    let p = found_in text f.pieces f.rest ds f.cuts x in
    elim f.first [
      | inl g ↦ not_all f.pieces ds k p.0 g
      | inr g ↦ g.more p.1
    ]

pub fault_excludes : FaultExcludes
fault_excludes text faults.TooLong ds known f x = let short = x.short in omega (arith, f, short)
fault_excludes text (faults.Declaration k) ds known f x = unread text k ds f x
fault_excludes text faults.Memory ds known f x = known refl

same_number : (pieces : List (List ℕ)) (rest : List ℕ) (j k : ℕ) → IsFirstUndeclared pieces j ⊎ IsUnended pieces rest j → IsFirstUndeclared pieces k ⊎ IsUnended pieces rest k → j ≡ k
same_number pieces rest j k (inl f) (inl g) = omega (arith, not_above pieces j k f g, not_above pieces k j g f)
same_number pieces rest j k (inl f) (inr g) = absurd (not_all pieces g.declarations j g.each f)
same_number pieces rest j k (inr f) (inl g) = absurd (not_all pieces f.declarations k f.each g)
same_number pieces rest j k (inr f) (inr g) = f.number ∙ sym g.number

one_number : (text : List ℕ) (j k : ℕ) → IsUndeclaredAt text j → IsUndeclaredAt text k → j ≡ k
one_number text j k f g =
    let same = one_cut text g.pieces f.pieces g.rest f.rest g.cuts f.cuts in
    same_number f.pieces f.rest j k f.first (subst (λ (c : List (List ℕ) × List ℕ). IsFirstUndeclared c.0 k ⊎ IsUnended c.0 c.1 k) (λ i. (same.0 i, same.1 i)) g.first)

pub one_fault : HasOneFault
one_fault text faults.TooLong faults.TooLong p q f g = refl
one_fault text faults.TooLong (faults.Declaration k) p q f g = let short = g.short in absurd (omega (arith, f, short))
one_fault text (faults.Declaration j) faults.TooLong p q f g = let short = f.short in absurd (omega (arith, g, short))
one_fault text (faults.Declaration j) (faults.Declaration k) p q f g = ap faults.Declaration (one_number text j k f g)
one_fault text faults.Memory g p q _ _ = absurd (p refl)
one_fault text f faults.Memory p q _ _ = absurd (q refl)

-- ---- the loop over the pieces
abbrev pub seen : List (Bor (List ℕ)) → List (List ℕ)
seen pieces = map (λ piece. piece.now) pieces

joined : (bs : List (List ℕ)) (ds : List DeclSyntax) (b : List ℕ) (d : DeclSyntax) → AreDeclared bs ds → IsDeclared b d → AreDeclared (bs ++ b ∷ []) (ds ++ d ∷ [])
joined [] [] b d p q = (q, tt)
joined [] (e ∷ ds) b d p q = absurd p
joined (x ∷ bs) [] b d p q = absurd p
joined (x ∷ bs) (e ∷ ds) b d p q = (p.0, joined bs ds b d p.1 q)

-- what stands past the end of the pieces
abbrev pub no_piece : Bor (List ℕ)
no_piece = record { ref_ptr = (0, 0); now = [] }

-- what the reader of a piece answers
abbrev pub IsAnswer : List ℕ → Option Decl → Type 0
IsAnswer piece found = MatchOption found (IsUndeclared piece) (λ d. IsDeclared piece (decl_of d))

module _ (pieces : List (Bor (List ℕ))) (ds : List DeclSyntax) (i : ℕ) (other : Bor (List ℕ)) (lt : i < length pieces) (so_far : AreDeclared (seen (take i pieces)) ds) where
  pub one_more : (found : Option Decl) (d : Decl) → found ≡ Some d → IsAnswer (get_or pieces i other).now found → AreDeclared (seen (take (i + 1) pieces)) (ds ++ decl_of d ∷ [])
  one_more found d is answer =
      let p : IsDeclared (get_or pieces i other).now (decl_of d) = subst (IsAnswer (get_or pieces i other).now) is answer in
      let longer : seen (take (i + 1) pieces) ≡ seen (take i pieces) ++ (get_or pieces i other).now ∷ [] = ap seen (take_more pieces i other lt) ∙ map-append (λ (b : Bor (List ℕ)). b.now) (take i pieces) (get_or pieces i other ∷ []) in
      subst (λ (bs : List (List ℕ)). AreDeclared bs (ds ++ decl_of d ∷ [])) (sym longer) (joined (seen (take i pieces)) ds (get_or pieces i other).now (decl_of d) so_far p)

  pub first_undeclared : (found : Option Decl) → found ≡ None → IsAnswer (get_or pieces i other).now found → IsFirstUndeclared (seen pieces) (i + 1)
  first_undeclared found is answer =
      let size : length (seen (take i pieces)) ≡ i = length-map (take i pieces) (λ (b : Bor (List ℕ)). b.now) ∙ length-take-le i pieces (omega arith) in
      record {
        before = seen (take i pieces);
        piece = (get_or pieces i other).now;
        behind = seen (drop (i + 1) pieces);
        declarations = ds;
        whole = ap seen (sym (take-append-drop i pieces)) ∙ map-append (λ (b : Bor (List ℕ)). b.now) (take i pieces) (drop i pieces) ∙ ap (λ (l : List (Bor (List ℕ))). seen (take i pieces) ++ seen l) (drop_more pieces i other lt);
        each = so_far;
        undeclared = subst (IsAnswer (get_or pieces i other).now) is answer;
        number = omega (arith, size);
      }
