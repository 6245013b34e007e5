-- A text that goes to a sink block by block.
use Rattle.std.proofs.Common.{◌≡◌, ℕ, ◌+◌, ◌<◌, ◌≤◌, List, [], ◌∷◌, ◌++◌, suc, length, take, Option, None, Some, Result, Ok, Err, refl, sym, ap, subst, ◌∙◌, append_assoc, arith}
use Rattle.std.specs.Result.{OnOk}
use Rattle.std.proofs.Math.Seq.{take-append_seam}
use Rattle.std.proofs.lemmas.Grind.{common_steps}
use Rattle.std.proofs.lemmas.List.{append-nil, length-append}
use Rattle.gaspi_io.specs.Blocks.{IsOnItsWay}
use Rattle.gaspi_io.specs.Sink.{with_more, AddsPrefix}
use Rattle.gaspi_io.proofs.Written.{with_more-twice}

-- nothing of it yet
pub nothing-yet : (old : Option (List ℕ)) → IsOnItsWay old [] old []
nothing-yet None = record { written = []; got = refl; whole = refl }
nothing-yet (Some held) = record { written = []; got = ap Some (sym (append-nil held)); whole = refl }

-- more behind the block
pub more-behind : (old : Option (List ℕ)) (text : List ℕ) (new : Option (List ℕ)) (block block' more : List ℕ) → IsOnItsWay old text new block → block' ≡ block ++ more → IsOnItsWay old (text ++ more) new block'
more-behind old text new block block' more way is = record {
  written = way.written;
  got = way.got;
  whole = ap (λ (bytes : List ℕ). way.written ++ bytes) is ∙ sym (append_assoc way.written block more) ∙ ap (λ (bytes : List ℕ). bytes ++ more) way.whole;
}

-- the block written
pub block-written : (old : Option (List ℕ)) (text : List ℕ) (new new' : Option (List ℕ)) (block : List ℕ) → IsOnItsWay old text new block → new' ≡ with_more new block → IsOnItsWay old text new' []
block-written old text new new' block way is = record {
  written = way.written ++ block;
  got = is ∙ ap (λ (o : Option (List ℕ)). with_more o block) way.got ∙ with_more-twice old way.written block;
  whole = append-nil (way.written ++ block) ∙ way.whole;
}

-- it has arrived
pub arrived-whole : (old : Option (List ℕ)) (text : List ℕ) (new : Option (List ℕ)) → IsOnItsWay old text new [] → new ≡ with_more old text
arrived-whole old text new way = way.got ∙ ap (with_more old) (sym (append-nil way.written) ∙ way.whole)

take-front : (n : ℕ) (xs ys : List ℕ) → n ≤ length xs → take n (xs ++ ys) ≡ take n xs
take-front n xs ys less = grind (arith, common_steps)

take-behind : (n : ℕ) (xs ys : List ℕ) → take (length xs + n) (xs ++ ys) ≡ xs ++ take n ys
take-behind n [] ys = ap (λ (k : ℕ). take k ys) (omega arith)
take-behind n (x ∷ xs) ys =
    let more : length (x ∷ xs) + n ≡ suc (length xs + n) = omega arith in
    ap (λ (k : ℕ). take k (x ∷ (xs ++ ys))) more ∙ ap (λ (l : List ℕ). x ∷ l) (take-behind n xs ys)

-- the block written, where it was
pub written-on_ok : {A E : Type 0} (r : Result A E) (old : Option (List ℕ)) (text : List ℕ) (new new' : Option (List ℕ)) (block block' : List ℕ)
    → OnOk r (new' ≡ with_more new block) → OnOk r (block' ≡ []) → IsOnItsWay old text new block → OnOk r (IsOnItsWay old text new' block')
written-on_ok (Ok value) old text new new' block block' is emptied way = subst (λ (b : List ℕ). IsOnItsWay old text new' b) (sym emptied) (block-written old text new new' block way is)
written-on_ok (Err error) old text new new' block block' is emptied way = is

-- a prefix of the block written, of a text that goes on
pub cut-in-block : (old : Option (List ℕ)) (text : List ℕ) (new new' : Option (List ℕ)) (block rest : List ℕ) → IsOnItsWay old text new block → AddsPrefix block new new' → AddsPrefix (text ++ rest) old new'
cut-in-block old text new new' block rest way cut =
    let lengths : length (text ++ rest) ≡ length way.written + length block + length rest =
    length-append text rest ∙ ap (λ (bytes : List ℕ). length bytes + length rest) (sym way.whole) ∙ ap (λ (n : ℕ). n + length rest) (length-append way.written block) in
    let within = cut.within in
    record {
      count = length way.written + cut.count;
      within = omega (arith, lengths, within);
      added = cut.added ∙ ap (λ (o : Option (List ℕ)). with_more o (take cut.count block)) way.got ∙ with_more-twice old way.written (take cut.count block)
          ∙ ap (with_more old) (sym (ap (λ (bytes : List ℕ). take (length way.written + cut.count) (bytes ++ rest)) (sym way.whole)
          ∙ ap (take (length way.written + cut.count)) (append_assoc way.written block rest) ∙ take-behind cut.count way.written (block ++ rest)
          ∙ ap (λ (bytes : List ℕ). way.written ++ bytes) (take-front cut.count block rest (omega (arith, within)))));
    }

-- nothing more written, of a text that goes on
pub cut-before : (old : Option (List ℕ)) (text : List ℕ) (new : Option (List ℕ)) (block rest : List ℕ) → IsOnItsWay old text new block → 0 < length rest → AddsPrefix (text ++ rest) old new
cut-before old text new block rest way more =
    let lengths : length (text ++ rest) ≡ length way.written + length block + length rest =
    length-append text rest ∙ ap (λ (bytes : List ℕ). length bytes + length rest) (sym way.whole) ∙ ap (λ (n : ℕ). n + length rest) (length-append way.written block) in
    record {
      count = length way.written;
      within = omega (arith, lengths, more);
      added = way.got ∙ ap (with_more old) (sym (ap (λ (bytes : List ℕ). take (length way.written) (bytes ++ rest)) (sym way.whole)
          ∙ ap (take (length way.written)) (append_assoc way.written block rest) ∙ take-append_seam way.written (block ++ rest)));
    }
