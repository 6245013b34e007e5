use Rattle.std.proofs.Common.{◌≡◌, ℕ, suc, ◌+◌, [], ◌∷◌, ◌++◌, length, length-append, Result, Err, refl, sym, ap, ◌∙◌, subst, arith}
use Rattle.std.proofs.lemmas.Bool.{true_from_ne_false}
use Rattle.gaspi_types.specs.CallRows.{row_of}
use Rattle.gaspi_types.specs.declared.replies.Reply.{Reply}
use Rattle.timeout_state.specs.Looks.{looks_of, left_after, answer_of, spent, HasLook}
use Rattle.gaspi_world.specs.Attempts.{Attempted}
use Rattle.gaspi_world.specs.declared.attempts.Halt.{Halt}
use Rattle.gaspi_world.proofs.Waiting.{waited-none, waited-busy, waited-more, called-now, stopped-full, stopped-empty, left-more}
use Rattle.gaspi_world.proofs.calling.call.Goals as goal

pub loop-init : goal.loop-init
loop-init g c = (
  tt,
  tt,
  refl,
  c.requires.free,
  (
    [],
    waited-none c.args.table.now.start.shape c.args.invocation.now.caller c.args.invocation.now.call.now c.args.pass.now.known,
    c.requires.timeout,
    c.next-look.ensures.answer ∙ ap answer_of c.new-budget.ensures,
    c.next-look.ensures.left ∙ ap spent c.new-budget.ensures,
    c.next-look.ensures.others,
  ),
)

pub returns-in-Ok-clause-calls : goal.returns-in-Ok-clause-calls
returns-in-Ok-clause-calls g c =
    let told = subst (λ (r : Result Reply Halt). Attempted c.args.table.now.start.shape c.args.invocation.now.caller c.args.invocation.now.call.now c.loop.look c.loop.pass.known r c.attempt.new.pass.known) c.in-Ok.is c.attempt.ensures.attempted in
    called-now c.args.table.now.start.shape c.args.invocation.now.caller c.args.invocation.now.call.now c.args.pass.now.known c.loop.pass.known c.attempt.new.pass.known c.loop.invariant.4.0 c.loop.look c.args.timeout c.in-Ok.reply c.requires.world c.loop.invariant.4.1
    told c.loop.invariant.4.3 c.loop.invariant.4.2

pub loop-preserved-in-Err-Busy : goal.loop-preserved-in-Err-Busy
loop-preserved-in-Err-Busy g c =
    let told = subst (λ (r : Result Reply Halt). Attempted c.args.table.now.start.shape c.args.invocation.now.caller c.args.invocation.now.call.now c.loop.look c.loop.pass.known r c.attempt.new.pass.known) (c.in-Err-Busy.is ∙ ap (λ (h : Halt). Err h) c.in-Err-Busy.field-0-is) c.attempt.ensures.attempted in (
      tt,
      tt,
      c.attempt.ensures.table ∙ c.loop.invariant.2,
      c.attempt.ensures.free,
      (
        c.loop.invariant.4.0,
        waited-busy c.args.table.now.start.shape c.args.invocation.now.caller c.args.invocation.now.call.now c.args.pass.now.known c.loop.pass.known c.attempt.new.pass.known c.loop.invariant.4.0 c.loop.invariant.4.1 told,
        c.loop.invariant.4.2,
        c.loop.invariant.4.3,
        c.loop.invariant.4.4,
        c.loop.invariant.4.5,
      ),
    )

pub loop-preserved : goal.loop-preserved
loop-preserved g c =
    let told = subst (λ (r : Result Reply Halt). Attempted c.args.table.now.start.shape c.args.invocation.now.caller c.args.invocation.now.call.now c.loop.look c.loop.pass.known r c.attempt.new.pass.known) (c.in-Err-NotYet.is ∙ ap (λ (h : Halt). Err h) c.in-Err-NotYet.field-0-is) c.attempt.ensures.attempted in
    let most = looks_of c.args.timeout in
    let earlier = c.loop.invariant.4.0 in
    let count : length (earlier ++ told.history ∷ []) ≡ suc (length earlier) = length-append earlier (told.history ∷ []) ∙ (let one : length earlier + 1 ≡ suc (length earlier) = omega arith in one) in (
      tt,
      tt,
      c.attempt.ensures.table ∙ c.loop.invariant.2,
      c.attempt.ensures.free,
      (
        earlier ++ told.history ∷ [],
        waited-more c.args.table.now.start.shape c.args.invocation.now.caller c.args.invocation.now.call.now c.args.pass.now.known c.loop.pass.known c.attempt.new.pass.known earlier c.loop.look c.requires.world c.loop.invariant.4.1 told,
        subst HasLook (c.loop.invariant.4.4 ∙ ap (λ (k : ℕ). left_after k most) (sym count)) (c.loop.invariant.4.5 told.more),
        c.next-look-in-Err-NotYet.ensures.answer ∙ (ap answer_of c.loop.invariant.4.4 ∙ ap (λ (k : ℕ). answer_of (left_after k most)) (sym count)),
        c.next-look-in-Err-NotYet.ensures.left ∙ (ap spent c.loop.invariant.4.4 ∙ (sym (left-more (suc (length earlier)) most) ∙ ap (λ (k : ℕ). left_after (suc k) most) (sym count))),
        c.next-look-in-Err-NotYet.ensures.others,
      ),
    )

pub returns-in-Err-EventLimit-clause-calls : goal.returns-in-Err-EventLimit-clause-calls
returns-in-Err-EventLimit-clause-calls g c =
    let told = subst (λ (r : Result Reply Halt). Attempted c.args.table.now.start.shape c.args.invocation.now.caller c.args.invocation.now.call.now c.loop.look c.loop.pass.known r c.attempt.new.pass.known) (c.in-Err-EventLimit.is ∙ ap (λ (h : Halt). Err h) c.in-Err-EventLimit.field-0-is) c.attempt.ensures.attempted in
    stopped-full c.args.table.now.start.shape c.args.invocation.now.caller c.args.invocation.now.call.now c.args.pass.now.known c.loop.pass.known c.attempt.new.pass.known c.loop.invariant.4.0 c.args.timeout c.requires.world c.loop.invariant.4.1 told c.loop.invariant.4.2

pub returns-in-Err-NoMemory-clause-calls : goal.returns-in-Err-NoMemory-clause-calls
returns-in-Err-NoMemory-clause-calls g c =
    let out = c.in-Err-NoMemory.is ∙ ap (λ (h : Halt). Err h) c.in-Err-NoMemory.field-0-is in
    let told = subst (λ (r : Result Reply Halt). Attempted c.args.table.now.start.shape c.args.invocation.now.caller c.args.invocation.now.call.now c.loop.look c.loop.pass.known r c.attempt.new.pass.known) out c.attempt.ensures.attempted in (
      true_from_ne_false (row_of c.args.invocation.now.call.now).takes_memory (λ small. c.attempt.ensures.ample small out),
      stopped-empty c.args.table.now.start.shape c.args.invocation.now.caller c.args.invocation.now.call.now c.args.pass.now.known c.loop.pass.known c.attempt.new.pass.known c.loop.invariant.4.0 c.args.timeout c.requires.world c.loop.invariant.4.1 told c.loop.invariant.4.2,
    )
