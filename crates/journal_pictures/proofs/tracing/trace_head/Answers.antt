use Rattle.std.proofs.Common.{◌-◌, ◌++◌, List, ℕ, codes, map, sym, ap, ◌∙◌}
use Rattle.std.specs.List.{flat_map, range_with_len}
use Rattle.serde_json.specs.Written.{compact_text}
use Rattle.journal_pictures.specs.Trace.{caller_name, queue_names, rank_name}
use Rattle.journal_pictures.proofs.TraceTexts.{head-text}
use Rattle.journal_pictures.proofs.tracing.trace_head.Goals as goal

pub returns : goal.returns
returns c =
    let limits = c.limits-limits.result in
    rw (sym c.limits-limits.ensures.value, sym c.callers.ensures)
    (head-text c.append.new.self c.append_rank.new.text c.write_ranks.new.text c.write_callers.new.text c.write_queues.new.text (codes "[\n") (compact_text (rank_name 0))
    (map rank_name (range_with_len 1 (limits.ranks - 1))) (map caller_name c.callers.result.now) (flat_map (queue_names limits.queues) (range_with_len 0 limits.ranks))
    (c.in_ok-append.ensures.ok ∙ ap (λ (t : List ℕ). t ++ codes "[\n") c.in_ok-text.ensures) c.in_ok-append_rank.ensures c.in_ok-write_ranks.ensures c.in_ok-write_callers.ensures c.in_ok-write_queues.ensures)
