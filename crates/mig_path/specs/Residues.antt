-- The rest that the residue of a side stands for.
use Rattle.mig_value.specs.View.{typed_of}
use Rattle.mig_path.specs.declared.side.SideRest.{SideRest}
use Rattle.mig_path.specs.declared.side.SideRest.TheVariants as S
use Rattle.mig_path.specs.Rest.{Residual, stays, in_left, in_right}

abbrev pub side_rest : SideRest → Residual
side_rest (S.Left b) = in_left
side_rest (S.Right b) = in_right
side_rest (S.Other v) = stays (typed_of v)
