use Rattle.std.proofs.Common.{◌≡◌, ℕ, ◌++◌, subst, arith}
use Rattle.std.specs.List.{flat_map, range_with_len}
use Rattle.call_journal.specs.Transcripts.{thread_transcript}
use Rattle.call_journal.proofs.NumberRanges.{thread-more}
use Rattle.call_journal.proofs.transcripts.write_rank.Goals as goal

pub loop-thread-preserved : goal.loop-thread-preserved
loop-thread-preserved c = λ scripts history told is.
    thread-more (thread_transcript scripts history) c.args.rank c.loop-thread.thread c.of.result c.of-in-loop-thread.result _ _ _ (c.in_ok-write_thread.ensures scripts history told is) c.of.ensures c.of-in-loop-thread.ensures (c.loop-thread.invariant scripts history told is)

pub returns : goal.returns
returns c = λ scripts history told is.
    let end : c.loop-thread.thread ≡ 4 = let over = c.loop-thread-test.false in let within = c.loop-thread.auto.thread-end in omega (arith, over, within) in
    subst (λ (n : ℕ). c.loop-thread.text ≡ c.args.text.now ++ flat_map (thread_transcript scripts history c.args.rank) (range_with_len 0 n)) end (c.loop-thread.invariant scripts history told is)
