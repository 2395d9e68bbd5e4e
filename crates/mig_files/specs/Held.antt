-- What files hold, as a function from a key to its bytes, and what their counts do.
use Rattle.std.specs.Prelude.{◌≡◌, ℕ, ◌+◌, ◌-◌, ◌^◌, ◌≤◌, min, Bool, ◌&&◌, List, Option, is_some, bytes_eq}
use Rattle.std.specs.List.{IsDistinct, list_any}
use Rattle.std.specs.Map.{update}

-- a folder and a name in it
abbrev pub Key : Type 0
Key = List ℕ × List ℕ

abbrev pub same_key : Key → Key → Bool
same_key k q = bytes_eq k.0 q.0 && bytes_eq k.1 q.1

-- the bytes under each key, and none where the key isn't there
abbrev pub Held : Type 0
Held = Key → Option (List ℕ)

-- the key has this, and all other keys are as before
abbrev pub assign : Held → Key → Option (List ℕ) → Held
assign held key to = update same_key held key to

abbrev pub is_among : List (List ℕ) → List ℕ → Bool
is_among names name = list_any (bytes_eq name) names

-- the names in a folder, each once, in any order
pub record Lists (held : Held) (folder : List ℕ) (names : List (List ℕ)) : Type 0 where
  pub once : IsDistinct bytes_eq names
  pub all : (name : List ℕ) → is_among names name ≡ is_some (held (folder, name))

-- one more, but for the last u64, which stays
abbrev pub next : ℕ → ℕ
next count = min (count + 1) (2 ^ 64 - 1)

-- a count went up, or stands at the last u64
abbrev pub Rose : ℕ → ℕ → Type 0
Rose before now = next before ≤ now

-- a count went up by at least so many, or stands at the last u64
abbrev pub RoseBy : ℕ → ℕ → ℕ → Type 0
RoseBy more before now = min (before + more) (2 ^ 64 - 1) ≤ now

-- how often calls failed, and how often a read found nothing, or too many bytes
pub record Counts : Type 0 where
  pub faults : ℕ
  pub absent : ℕ
  pub long : ℕ

pub record NoneFell (before now : Counts) : Type 0 where
  pub faults : before.faults ≤ now.faults
  pub absent : before.absent ≤ now.absent
  pub long : before.long ≤ now.long
