use Rattle.std.proofs.Common.{◌≡◌, ℕ, [], List, map, Option, subst, arith, sym}
use Rattle.std.specs.List.{range_with_len}
use Rattle.call_journal.specs.ScriptRuns.{run_of, IsRunTable}
use Rattle.call_journal.specs.declared.script_runs.FollowedRun.{FollowedRun}
use Rattle.call_journal.proofs.CallerTables.{table-made}
use Rattle.call_journal.proofs.NumberRanges.{made-more}
use Rattle.call_journal.proofs.script_runs.first_runs.Goals as goal

pub loop-rank-preserved : goal.loop-rank-preserved
loop-rank-preserved c =
    made-more (λ (rank : ℕ). map (run_of c.args.scripts.now [] rank) (range_with_len 0 4)) c.loop-rank.rank c.loop-rank.runs c.push.new.self c.in_ok-first_row.field-0 c.in_ok-push.ensures.ok
    c.in_ok-first_row.ensures c.loop-rank.invariant

pub returns : goal.returns
returns c =
    let end : c.loop-rank.rank ≡ 16 = let over = c.loop-rank-test.false in let within = c.loop-rank.auto.rank-end in omega (arith, over, within) in
    let made : c.loop-rank.runs ≡ map (λ (rank : ℕ). map (run_of c.args.scripts.now [] rank) (range_with_len 0 4)) (range_with_len 0 16) =
    subst (λ (n : ℕ). c.loop-rank.runs ≡ map (λ (rank : ℕ). map (run_of c.args.scripts.now [] rank) (range_with_len 0 4)) (range_with_len 0 n)) end c.loop-rank.invariant in
    subst (λ (runs : List (List (Option FollowedRun))). IsRunTable runs c.args.scripts.now []) (sym made) (table-made (run_of c.args.scripts.now []))
