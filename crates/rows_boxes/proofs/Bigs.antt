-- A box of a big, on its way and full.
use Rattle.std.proofs.Common.{◌≡◌, ℕ, ℤ, suc, pos, List, [], ◌∷◌, Option, Some, refl, ap, ◌∙◌, arith}
use Rattle.process_model.specs.Process.{Went}
use Rattle.limbo_types.specs.Types as ty
use Rattle.limbo_types.specs.Types.{Ty}
use Rattle.limbo_layout.specs.Adts.{Def}
use Rattle.limbo_layout.specs.Layout.{Laid}
use Rattle.limbo_values.specs.declared.number.Kind.TheVariants as kind
use Rattle.limbo_values.specs.Numbers.{InRange}
use Rattle.limbo_typed.specs.Typed as typed
use Rattle.limbo_meaning.specs.Process.{Shared}
use Rattle.limbo_meaning.specs.Values.{Num}
use Rattle.system_model.specs.Limits.{frames_limit}
use Rattle.core_code.specs.Machine as code
use Rattle.dis_isa.specs.declared.inst.Inst.{Inst}
use Rattle.dis_meaning.specs.Words.{Word, Plain, Refer, Access, Found, ◌>>=◌, or_wrong, type_check, number_in}
use Rattle.dis_meaning.specs.Numbers.{number_at, joined, nth_number}
use Rattle.dis_meaning.specs.Process.{Process}
use Rattle.dis_memory.specs.Blocks.{World, Record, with_changed}
use Rattle.dis_memory.specs.Step.{obey}
use Rattle.value_words.specs.Facts.{Facts}
use Rattle.value_words.specs.Stands.{a_number}
use Rattle.value_words.proofs.Rows.{is_there}
use Rattle.value_words.proofs.Carrying.{number_laid}
use Rattle.value_heaps.proofs.Words.{named_where}
use Rattle.value_roots.proofs.Words.{has_counts}
use Rattle.value_frames.specs.Frames.{box_bytes, room_for}
use Rattle.value_frames.specs.Types.{AreOf}
use Rattle.value_frames.proofs.Replacing.{kinds_stay}
use Rattle.value_moves.specs.Changing.{Changes}
use Rattle.value_moves.specs.Operands.{behind}
use Rattle.value_moves.specs.Spots.{Leads}
use Rattle.value_moves.proofs.Leading.{spots_lead}
use Rattle.value_code.specs.Objects.{object_of}
use Rattle.number_effects.specs.Giving.{StoresNumber}
use Rattle.number_effects.specs.Stepping.{Reaches}
use Rattle.number_effects.proofs.Stepping.{steps_obey}
use Rattle.value_follows.specs.Stands.{ReferNowhere}
use Rattle.value_follows.specs.Sides.{sides, HoldTheSame}
use Rattle.value_follows.specs.Rows.{Base}
use Rattle.value_follows.proofs.Several.{moved_to}
use Rattle.rows_boxes.proofs.Boxing.{Boxing, box_place}
use Rattle.rows_boxes.proofs.Filling.{Fills}

-- words none of which refers
bare_kind : (size : ℕ) (ws : List Word) → AreOf size [] ws → ReferNowhere ws
bare_kind size ws kind b h = let w = named_where ws b (has_counts ws b h) in kind.only w.0 (Some b) w.1

pub has_number : (w : Word) → ((r : Option ℕ) → w ≡ Refer r → ⊥) → (z : ℤ) × (number_in w ≡ Found z)
has_number (Plain z) none = (z, refl)
has_number (Refer r) none = absurd (none r refl)
has_number _ none = (pos 0, refl)

-- a big is read in a record that is made for one
big_there : (ws : List Word) → AreOf 8 [] ws → (z : ℤ) × (number_at kind.Big ws (pos 0) ≡ Found z)
big_there ws kind =
    let many = kind.many in
    let first = is_there ws 0 (omega (arith, many)) in
    let second = is_there ws 1 (omega (arith, many)) in
    let a = has_number first.0 (λ r e. kind.only 0 r (first.1 ∙ ap (λ (w : Word). Some w) e)) in
    let c = has_number second.0 (λ r e. kind.only 1 r (second.1 ∙ ap (λ (w : Word). Some w) e)) in (
      joined a.0 c.0,
      ap (λ (o : Access ℤ). o >>= λ high. nth_number ws 1 >>= λ low. Found (joined high low))
          (ap (λ (o : Option Word). or_wrong type_check o >>= number_in) first.1 ∙ a.1)
          ∙ ap (λ (o : Access ℤ). o >>= λ low. Found (joined a.0 low))
          (ap (λ (o : Option Word). or_wrong type_check o >>= number_in) second.1 ∙ c.1),
    )

pub big_laid : (defs : List Def) → Laid defs ty.Big (room_for defs ty.Big)
big_laid defs = number_laid defs kind.Big

module _ (m : typed.Module) (b : Base m) (number : ℕ) (f : typed.Function) (into : ℕ) (j box : ℕ) (inner : List Word) (i : ℕ) (p : code.Process)
    (q : Process) (k : Facts) (w : Shared) (x : World) (s : Boxing m number f ty.Big into j box inner k i x p q) where
  abbrev pub box_leads : Leads x q (behind (box_place m number f ty.Big into) 0) inner 0
  box_leads = (spots_lead.inner x q (box_place m number f ty.Big into) box inner 0 s.word s.there).0

  -- some big is there
  pub old_big : (z : ℤ) × (number_at kind.Big inner (pos 0) ≡ Found z)
  old_big = big_there inner s.kind

  module _ (inst : Inst) (z : ℤ) (range : InRange kind.Big z)
      (stored : StoresNumber (obey frames_limit (object_of m) x q inst inst.op) x q box_leads.place kind.Big inner 0 z) where
    abbrev pub after : List Word
    after = stored.0.others

    pub big_goes : Reaches (object_of m ∷ []) x q (object_of m) inst
        → (sides m).code.step x q ≡ Went (with_changed x box (Record after)) (moved_to q (suc q.frame.pc) q.frame.words)
    big_goes reaches =
        steps_obey.stores frames_limit (object_of m ∷ []) x q (object_of m) inst x box_leads.place after _ reaches stored.1
        ((spots_lead.inner x q (box_place m number f ty.Big into) box inner 0 s.word s.there).1 after)

    changes : Changes inner after 0 8
    changes = stored.0.changes (λ e. range)

    pub big_kind : AreOf (box_bytes m.adts ty.Big) (room_for m.adts ty.Big).references after
    big_kind = kinds_stay.all 8 [] inner after s.kind changes.many changes.refer changes.referred (stored.0.ranged range s.kind.ranged)

    pub big_bare : ReferNowhere after
    big_bare = bare_kind 8 after big_kind

    pub big_read : number_at kind.Big after (pos 0) ≡ Found z
    big_read = stored.0.there range

    module _ (hold : HoldTheSame m k i x p q) (worlds : (sides m).worlds k w x) where
      pub big_fills : (live : List ℕ) → Fills m b number f ty.Big into j box inner i p q k w x s hold worlds after live (Num z)
      big_fills live = record {
        kind = big_kind;
        stands = a_number 0 kind.Big z big_read range;
        led = λ n h. absurd (big_bare n h);
        names = λ a n e. absurd cc;
      }
