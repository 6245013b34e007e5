use Rattle.std.proofs.Common.{◌≡◌, ◌∙◌, ◌+◌, ◌%◌, ◌^◌, ℕ, ap, ap₂, sym, add-one}
use Rattle.std.specs.Prelude.{unwrap_or}
use Rattle.std.proofs.Math.Nat.{mod-add-mod}
use Rattle.plain_machine.specs.Words.{word_in}
use Rattle.call_journal.specs.Numbers.{words_until}
use Rattle.call_journal.proofs.journal_numbers.sum_of_words.Goals as goal

pub loop-rank-preserved : goal.loop-rank-preserved
loop-rank-preserved c =
    let word : c.unwrap_or-word.result ≡ unwrap_or (word_in c.args.machine.now c.loop-rank.rank 0 8) 0
    = c.unwrap_or-word.ensures ∙ ap (λ o. unwrap_or o 0) (c.word.ensures ∙ ap (λ (rank : ℕ). word_in c.args.machine.now rank 0 8) c.of.ensures) in
    ap₂ (λ (sum word : ℕ). (sum + word) % 2 ^ 64) c.loop-rank.invariant word
    ∙ mod-add-mod (words_until c.args.machine.now c.loop-rank.rank) (2 ^ 64) (unwrap_or (word_in c.args.machine.now c.loop-rank.rank 0 8) 0)
    ∙ ap (λ (ranks : ℕ). words_until c.args.machine.now ranks % 2 ^ 64) (sym (add-one c.loop-rank.rank))
