use Rattle.std.proofs.Common.{◌≡◌, ◌++◌, drop}
use Rattle.std.specs.Prelude.{flat_map}
use Rattle.mig_tree.specs.Spelling.{spelled_byte}
use Rattle.mig_tree.proofs.spelling.spell.Given as goal

abbrev pub invariant-loop-byte : goal.invariant-loop-byte
invariant-loop-byte l = l.out.items ++ flat_map spelled_byte (drop l.byte-index l.bytes) ≡ flat_map spelled_byte l.bytes
