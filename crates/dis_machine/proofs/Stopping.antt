-- Rows of instructions, by what the last of them came to.
use Rattle.std.proofs.Common.{◌≡◌, ℕ, ◌+◌, List, [], ◌++◌, Some, refl, sym, ap, ◌∙◌, append_assoc}
use Rattle.dis_file.specs.declared.object.Object.{Object}
use Rattle.system_model.specs.Trace.{Trace}
use Rattle.dis_counts.specs.Told as traces
use Rattle.dis_machine.specs.declared.state.Running.{Running}
use Rattle.dis_machine.specs.declared.running.Turn.{Turn}
use Rattle.dis_machine.specs.declared.running.Turn.TheVariants.{Went, Asked, Ended, Broken, Fault, NoMemory}
use Rattle.dis_machine.specs.Running.{state_with, told_by, obeyed, ComesTo, IsTurn, HadTurns}
use Rattle.dis_machine.proofs.Traces.{told_more}
use Rattle.dis_machine.proofs.Turning.{turned, then_one}

-- So many instructions were obeyed, which told nothing but which blocks went.
abbrev pub Quiet : List Object → (old new : Running) → ℕ → Type 0
Quiet objects old new n = (told : Trace) → ComesTo (turned objects n (state_with old told)) new told []

module _ (objects : List Object) (old mid new : Running) (count : ℕ) where
  -- One more, which told this.
  one_told : (told since : Trace) → ComesTo (turned objects count (state_with old told)) mid told [] →
      ((t : Trace) → ComesTo (obeyed objects (state_with mid t)) new t since) → ComesTo (turned objects (count + 1) (state_with old told)) new told since
  one_told told since before last =
      let l = last (told ++ before.more) in
      record {
        more = before.more ++ l.more;
        since = told_more before.more l.more ∙ ap (λ t. t ++ traces.told l.more) before.since ∙ l.since;
        state =
            then_one objects count (state_with old told) (state_with mid (told ++ before.more)) (state_with new ((told ++ before.more) ++ l.more)) before.state l.state
            ∙ ap (λ t. Some (state_with new t)) (append_assoc told before.more l.more);
      }

  pub went_on : Quiet objects old mid count → IsTurn objects mid new Went → Quiet objects old new (count + 1)
  went_on before last told = one_told told [] (before told) last

  pub lacked : Quiet objects old mid count → IsTurn objects mid new NoMemory → HadTurns objects old new count NoMemory
  lacked before last told =
      let b = before told in
      record { more = b.more; since = b.since; state = b.state ∙ ap Some (sym (last (told ++ b.more))) }

  pub full : Quiet objects old new count → HadTurns objects old new count Went
  full before told = before told

  pub stopped : (t : Turn) → (t ≡ NoMemory → ⊥) → Quiet objects old mid count → IsTurn objects mid new t → HadTurns objects old new (count + 1) t
  stopped Went other before last told = one_told told [] (before told) last
  stopped (Asked m) other before last told = one_told told (told_by (Asked m)) (before told) last
  stopped Ended other before last told = one_told told (told_by Ended) (before told) last
  stopped (Broken text) other before last told = one_told told (told_by (Broken text)) (before told) last
  stopped (Fault number pc) other before last told = one_told told (told_by (Fault number pc)) (before told) last
  stopped NoMemory other before last told = absurd (other refl)
