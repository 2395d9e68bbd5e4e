use Rattle.std.proofs.Common.{length}
use Rattle.mig_token.specs.Token.{toks}
use Rattle.mig_lex.proofs.Sequences.{IsFresh, BeginWith}
use Rattle.mig_lex.proofs.read.tokens.Given as goal

abbrev pub decreases-loop-rest : goal.decreases-loop-rest
decreases-loop-rest l = length l.rest

abbrev pub invariant-loop-rest : goal.invariant-loop-rest
invariant-loop-rest l = record {
  begun : BeginWith l.fn.bytes (toks l.tokens.items) l.rest;
  fresh : IsFresh l.rest;
}
