-- What stopped in a part, seen from the whole.
use Rattle.std.proofs.Common.{◌≡◌, ℕ, List, Option, Some, None, Ok, Err, true, false, sym, subst}
use Rattle.std.specs.Prelude.{Result}
use Rattle.std.specs.Result.{IsErr, IsErrAnd}
use Rattle.mig_model.specs.Plain.{Plain}
use Rattle.mig_model.specs.Template.{Template, point}
use Rattle.mig_model.specs.Family.{Family}
use Rattle.mig_value.specs.declared.value.Value.{Value}
use Rattle.mig_value.specs.declared.node.Node.{Node}
use Rattle.mig_model.specs.Place.{Place}
use Rattle.mig_codec.specs.declared.stop.Stop.{Stop}
use Rattle.mig_codec.specs.declared.stop.Stop.TheVariants as T
use Rattle.mig_codec.specs.Reading.{StopsAt, Reads, ReadsNode, wrong_part}

memory_stays : (result : Stop) → StopsAt result None → (o : Option Place) → StopsAt result o
memory_stays (T.Wrong steps) h o = absurd cc
memory_stays T.Memory h o = tt

-- a wrong place in a part leads to the whole's first wrong place
pub stop_passes : (stop result : Stop) (f : Option Place → Option Place) → f None ≡ None → ((o : Option Place) → StopsAt stop o → StopsAt result (f o)) → (part whole : Option Place) → StopsAt stop part → ((p : Place) → part ≡ Some p → f part ≡ whole) → StopsAt result whole
stop_passes (T.Wrong steps) result f none h part whole s e = subst (StopsAt result) (e _ s) (h part s)
stop_passes T.Memory result f none h part whole s e = memory_stays result (subst (StopsAt result) none (h None tt)) whole

-- a stop that is passed on
pub passed : (f : Family) (V : Template) (t : Plain) (stop : Stop) (r : Result Value Stop) → IsErr r × IsErrAnd r (λ d. d ≡ stop) → StopsAt stop (wrong_part f V t) → Reads f V t r
passed f V t stop (Ok v) given s = absurd (let h : false ≡ true = given.0 in cc)
passed f V t stop (Err d) given s = subst (λ e. StopsAt e (wrong_part f V t)) (sym given.1) s

pub passed_node : (f : Family) (n : List ℕ) (t : Plain) (stop : Stop) (r : Result Node Stop) → IsErr r × IsErrAnd r (λ d. d ≡ stop) → StopsAt stop (wrong_part f (point n) t) → ReadsNode f n t r
passed_node f n t stop (Ok v) given s = absurd (let h : false ≡ true = given.0 in cc)
passed_node f n t stop (Err d) given s = subst (λ e. StopsAt e (wrong_part f (point n) t)) (sym given.1) s
