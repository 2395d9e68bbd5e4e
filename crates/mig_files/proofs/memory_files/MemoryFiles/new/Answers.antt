use Rattle.mig_files.proofs.Lists.{none_ordered}
use Rattle.mig_files.proofs.memory_files.MemoryFiles.new.Goals as goal

pub invariant_of-result : goal.invariant_of-result
invariant_of-result c = rw c.new.ensures.items none_ordered
