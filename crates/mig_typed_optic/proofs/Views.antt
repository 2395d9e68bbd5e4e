-- Lists of values as contracts see them.
use Rattle.std.proofs.Common.{◌≡◌, List, length, map}
use Rattle.std.proofs.lemmas.List.{length-map}
use Rattle.mig_value.specs.View.{typed_of}
use Rattle.mig_value.specs.declared.value.Value.{Value}

pub length_views : (vs : List Value) → length (map typed_of vs) ≡ length vs
length_views vs = length-map vs typed_of
