-- A row's last instruction puts a number into a slot that names nothing.
use Rattle.std.proofs.Common.{◌≡◌, ℕ, ℤ, suc, pos, ◌<◌, ◌≤◌, List, [], ◌∷◌, length}
use Rattle.limbo_values.specs.declared.number.Kind.{Kind}
use Rattle.limbo_values.specs.Numbers.{InRange}
use Rattle.limbo_typed.specs.Typed as typed
use Rattle.limbo_typed.specs.Fitting.{of_kind}
use Rattle.limbo_meaning.specs.Process.{Shared}
use Rattle.limbo_meaning.specs.Values.{Num}
use Rattle.system_model.specs.Limits.{frames_limit}
use Rattle.core_code.specs.Machine as code
use Rattle.core_code.specs.Slots as core
use Rattle.core_code.specs.Slots.{Holds}
use Rattle.core_typing.specs.Held as held
use Rattle.core_typing.specs.Held.{Of}
use Rattle.core_typing.specs.Needs.{IsClean}
use Rattle.dis_isa.specs.declared.inst.Inst.{Inst}
use Rattle.dis_memory.specs.Step.{obey}
use Rattle.dis_meaning.specs.Words.{Found}
use Rattle.dis_meaning.specs.Numbers.{number_at}
use Rattle.dis_meaning.specs.Process.{Process}
use Rattle.dis_memory.specs.Blocks.{World}
use Rattle.value_words.specs.Facts.{Facts}
use Rattle.value_frames.specs.Frames.{AsNumber, form_of, number_place}
use Rattle.value_moves.specs.Changing.{bytes_in, NumberStored}
use Rattle.value_moves.specs.Operands.{own}
use Rattle.value_moves.proofs.Changing.{words_change}
use Rattle.value_moves.proofs.Leading.{spots_lead}
use Rattle.value_code.specs.Objects.{object_of}
use Rattle.number_effects.specs.Giving.{StoresNumber}
use Rattle.number_effects.specs.Stepping.{Reaches}
use Rattle.number_effects.proofs.Stepping.{steps_obey}
use Rattle.block_effects.specs.Stored.{NumberThere}
use Rattle.value_follows.specs.Stands.{types_of, GoesOn, place_of}
use Rattle.value_follows.specs.Sides.{sides, HoldTheSame}
use Rattle.value_follows.specs.Rows.{Base}
use Rattle.value_follows.proofs.Putting.{old_word, ready_put}
use Rattle.value_follows.proofs.Several.{moved_to}
use Rattle.value_follows.proofs.Single.{Once, both_go}
use Rattle.rows_texts.proofs.OnTheWay.{On, back}
use Rattle.rows_texts.proofs.Coming.{put_on}

module _ (m : typed.Module) (k : Facts) (i : ℕ) (x : World) (n : ℕ) (f : typed.Function) (j : ℕ) (p : code.Process) (q : Process)
    (on : On m k i x [] n f j p q) (s : ℕ) (l : s < length p.frame.slots) (clean : IsClean (held.slot on.known s)) where
  abbrev pub at_number : ℕ
  at_number = number_place m.adts (types_of m f) s

  abbrev begin : Process
  begin = moved_to q (place_of m n f p.frame.pc) q.frame.words

  -- a number is there already
  pub old_number : (u : Kind) → form_of (of_kind u) ≡ AsNumber → (z : ℤ) × (number_at u q.frame.words (pos at_number) ≡ Found z)
  old_number = (old_word m k i x p begin (back m k i x n f j p q on) s l clean).number

  abbrev pub number_there : (u : Kind) → form_of (of_kind u) ≡ AsNumber → NumberThere x q u (own at_number)
  number_there u form =
      let old = old_number u form in
      record { words = q.frame.words; byte = at_number; leads = (spots_lead.own x q at_number).0; old = old.0; stands = old.1 }

  -- so another may be stored
  abbrev pub number_stored : (u : Kind) → form_of (of_kind u) ≡ AsNumber → (z : ℤ) → NumberStored u q.frame.words at_number z
  number_stored u form z = let old = old_number u form in words_change.number u q.frame.words at_number old.0 z old.1

  module _ (b : Base m) (w : Shared) (hold : HoldTheSame m k i x p q) (worlds : (sides m).worlds k w x) (inst : Inst)
      (is : Reaches (object_of m ∷ []) x q (object_of m) inst) where
    pub number_comes : (u : Kind) → form_of (of_kind u) ≡ AsNumber → bytes_in u ≤ 4 → (z : ℤ) → InRange u z → (live : List ℕ)
        → suc q.frame.pc ≡ place_of m n f (suc p.frame.pc) → GoesOn m f (suc p.frame.pc) (held.put on.known s (Of (of_kind u) live))
        → StoresNumber (obey frames_limit (object_of m) x q inst inst.op) x q (spots_lead.own x q at_number).0.place u q.frame.words at_number z
        → (sides m).program.step w p ≡ code.goes_on w p (core.put p.frame.slots s (Holds (Num z))) → Once m b i p q k w x
    number_comes u form few z range live next goes stored does =
        both_go m b i p q k w x hold worlds (put_on p s (Holds (Num z))) (moved_to q (suc q.frame.pc) stored.0.others)
        (steps_obey.stores frames_limit (object_of m ∷ []) x q (object_of m) inst x (spots_lead.own x q at_number).0.place stored.0.others _ is stored.1
        ((spots_lead.own x q at_number).1 stored.0.others))
        does
        (ready_put m k i x p begin (back m k i x n f j p q on) s l clean stored.0.others (bytes_in u) few (stored.0.changes (λ e. range))
        (stored.0.ranged range on.words.kind.ranged) u form z live (stored.0.there range) range (suc q.frame.pc) next goes)
