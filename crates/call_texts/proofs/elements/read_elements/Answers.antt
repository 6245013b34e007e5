-- The words so far and the next one.
use Rattle.std.proofs.Common.{◌≡◌, ◌++◌, ◌∷◌, [], map, take, drop, suc, get_or, sym, arith, rules}
use Rattle.std.proofs.lemmas.List.{map_more}
use Rattle.call_texts.proofs.ElementWords.{elements_of-range}
use Rattle.call_texts.proofs.ReadElements.{elements_of_push, elements_of_stop, cut_map}
use Rattle.call_texts.proofs.elements.read_elements.Goals as goal

pub returns-in_default-clause-value : goal.returns-in_default-clause-value
returns-in_default-clause-value c =
    let words = c.args.words.now in
    let i = c.loop-word.word-index in
    let word = get_or words i (record { ref_ptr = (0, 0); now = [] }) in
    rw (cut_map (λ w. w.now) words i (record { ref_ptr = (0, 0); now = [] }) (omega arith))
    (sym (elements_of_stop c.args.num_type (map (λ w. w.now) (take i words)) word.now (map (λ w. w.now) (drop (suc i) words)) c.loop-word.elements c.loop-word.invariant (cc)))

pub loop-word-preserved : goal.loop-word-preserved
loop-word-preserved c =
    let words = c.args.words.now in
    let i = c.loop-word.word-index in
    let word = get_or words i (record { ref_ptr = (0, 0); now = [] }) in
    let grown : c.push.new.self ≡ c.loop-word.elements ++ c.in-Some.element ∷ [] = search rules in
    rw (map_more (λ w. w.now) words i (record { ref_ptr = (0, 0); now = [] }) (omega arith), grown)
    (elements_of_push c.args.num_type (map (λ w. w.now) (take i words)) word.now c.loop-word.elements c.in-Some.element c.loop-word.invariant (cc))

pub returns-clause-range : goal.returns-clause-range
returns-clause-range c =
    elements_of-range c.args.num_type (map (λ w. w.now) (take c.loop-word.word-index c.args.words.now)) c.loop-word.elements c.loop-word.invariant
