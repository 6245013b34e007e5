use Rattle.std.proofs.Common.{Ok, ap, ◌∙◌}
use Rattle.gaspi_io.proofs.GivenBytes.{taken_later, all_came, piece_came}
use Rattle.gaspi_io.proofs.read.read_all.Goals as goal

pub returns-in_err-read_piece-clause-taken : goal.returns-in_err-read_piece-clause-taken
returns-in_err-read_piece-clause-taken g c =
    taken_later _ _ _ _ _ c.loop-bytes.invariant.within c.loop-bytes.invariant.given c.read_piece.ensures.taken

pub returns-then-not-branch-clause-all : goal.returns-then-not-branch-clause-all
returns-then-not-branch-clause-all g c = λ told is.
    c.in_ok-read_piece.ensures.same (ap Ok c.if-not-branch.true)
    ∙ all_came _ _ _ c.loop-bytes.invariant.given (c.in_ok-read_piece.ensures.end (ap Ok c.if-not-branch.true)) told is

pub loop-bytes-preserved : goal.loop-bytes-preserved
loop-bytes-preserved g c = record {
  within = c.in_ok-read_piece.ensures.within;
  given = piece_came _ _ _ _ _ c.loop-bytes.invariant.given c.in_ok-read_piece.ensures.piece;
  still = c.in_ok-read_piece.ensures.still ∙ c.loop-bytes.invariant.still;
}
