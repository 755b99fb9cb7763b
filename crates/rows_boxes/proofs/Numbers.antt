-- Rows whose value is a big: the box is filled by one number after the other.
use Rattle.std.proofs.Common.{◌≡◌, ℕ, ℤ, suc, pos, ◌<◌, List, [], ◌∷◌, length, Some, refl, subst}
use Rattle.std.specs.Prelude.{slice_get}
use Rattle.limbo_types.specs.Types as ty
use Rattle.limbo_types.specs.Types.{Ty}
use Rattle.limbo_values.specs.declared.number.Kind.TheVariants as kind
use Rattle.limbo_values.specs.Numbers.{InRange}
use Rattle.limbo_typed.specs.Typed as typed
use Rattle.limbo_meaning.specs.Process.{Shared}
use Rattle.limbo_meaning.specs.Trees.{Work}
use Rattle.limbo_meaning.specs.Values.{Num}
use Rattle.system_model.specs.Limits.{frames_limit}
use Rattle.core_code.specs.Code.{Instr}
use Rattle.core_code.specs.Machine as code
use Rattle.core_code.specs.Slots as core
use Rattle.core_code.specs.Slots.{Holds}
use Rattle.core_code.specs.Using.{Uses}
use Rattle.core_typing.specs.Going.{got_by}
use Rattle.core_typing.specs.Needs.{Finds}
use Rattle.dis_isa.specs.declared.inst.Inst.{Inst}
use Rattle.dis_meaning.specs.Words.{Word, Found}
use Rattle.dis_meaning.specs.Numbers.{number_at}
use Rattle.dis_meaning.specs.Process.{Process}
use Rattle.dis_memory.specs.Blocks.{World}
use Rattle.dis_memory.specs.Step.{obey}
use Rattle.value_words.specs.Facts.{Facts}
use Rattle.value_frames.specs.Frames.{passing_place}
use Rattle.value_code.specs.Code.{code_of}
use Rattle.value_code.specs.Objects.{object_of, of_function, size_at}
use Rattle.value_words.specs.Contents.{AreInRange}
use Rattle.value_moves.specs.Changing.{Changes}
use Rattle.number_effects.specs.Giving as passing
use Rattle.number_effects.specs.Giving.{StoresNumber}
use Rattle.value_follows.specs.Stands.{scope}
use Rattle.value_follows.specs.Sides.{sides, HoldTheSame}
use Rattle.value_follows.specs.Rows.{Base, RowStands, site_of}
use Rattle.value_follows.proofs.Standing.{finds}
use Rattle.value_follows.proofs.Slots.{uses}
use Rattle.value_follows.proofs.Single.{nothing_changes}
use Rattle.value_follows.proofs.Several.{Next, moved_to}
use Rattle.rows_boxes.proofs.Boxing.{Boxing, boxing_holds, boxing_way}
use Rattle.rows_boxes.proofs.Starting.{steps_silently, further}
use Rattle.rows_boxes.proofs.Filling.{reaches_on, boxing_on, world_on, changes_on, alike_on, full_goes}
use Rattle.rows_boxes.proofs.Giving.{gives}
use Rattle.rows_boxes.proofs.Passing.{passing_leads, passed_goes, boxing_passed}
use Rattle.rows_boxes.proofs.Bigs.{box_leads, after, big_goes, big_kind, big_bare, big_read, big_fills}

module _ (m : typed.Module) (b : Base m) (t : Ty) (o : Work) (into : ℕ) (from : List ℕ) (number : ℕ) (f : typed.Function) (j box : ℕ) (inner : List Word) (i : ℕ) (p : code.Process)
    (q : Process) (k : Facts) (x : World) (s : Boxing m number f t into j box inner k i x p q)
    (here : slice_get p.frame.code p.frame.pc ≡ Some (gives m b t o into from)) where
  code_now : slice_get (of_function m s.stands.is.function).code p.frame.pc ≡ Some (gives m b t o into from)
  code_now = subst (λ c. slice_get c p.frame.pc ≡ Some (gives m b t o into from)) s.stands.is.code here

  -- what the instruction finds, and that its slots are there
  pub finds_on : Finds (scope m s.stands.is.function) s.stands.is.function.of.answer s.stands.is.known (gives m b t o into from)
  finds_on = finds m s.stands.is.function p.frame.pc s.stands.is.known (gives m b t o into from) s.stands.goes code_now

  pub uses_on : Uses (length p.frame.slots) (gives m b t o into from)
  uses_on = uses m k i x (into ∷ []) p.frame q.frame s.stands.is p.frame.pc (gives m b t o into from) code_now

module _ (m : typed.Module) (b : Base m) (o : Work) (into : ℕ) (from : List ℕ) (number : ℕ) (f : typed.Function)
    (there : slice_get m.functions number ≡ Some f) (i : ℕ) (p : code.Process)
    (here : slice_get p.frame.code p.frame.pc ≡ Some (gives m b ty.Big o into from))
    (in_code : slice_get (of_function m f).code p.frame.pc ≡ Some (gives m b ty.Big o into from))
    (row : RowStands m number f p.frame.pc (gives m b ty.Big o into from))
    (j box : ℕ) (inner : List Word) (q : Process) (k : Facts) (w : Shared) (x : World) (s : Boxing m number f ty.Big into j box inner k i x p q)
    (hold : HoldTheSame m k i x p q) (worlds : (sides m).worlds k w x) where
  abbrev instr : Instr
  instr = gives m b ty.Big o into from

  module _ (inst : Inst) (is : slice_get (code_of (site_of m number f p.frame.pc row.at) instr) j ≡ Some inst) (z : ℤ) (range : InRange kind.Big z)
      (stored : StoresNumber (obey frames_limit (object_of m) x q inst inst.op) x q (box_leads m b number f into j box inner i p q k w x s).place kind.Big inner 0 z) where
    abbrev pub filled_words : List Word
    filled_words = after m b number f into j box inner i p q k w x s inst z range stored

    abbrev next : Process
    next = moved_to q (suc q.frame.pc) q.frame.words

    -- with the last one the source takes its step
    pub ends_big : size_at m f.of.answer (of_function m f) p.frame.pc (Some instr) ≡ suc j
        → (sides m).program.step w p ≡ code.goes_on w p (core.put p.frame.slots into (Holds (Num z))) → Next m b i p 0 k w x q
    ends_big size does =
        full_goes m b number f ty.Big into j box inner i p q k w x s hold worlds filled_words (got_by m.adts ty.Big o) (Num z)
        (big_fills m b number f into j box inner i p q k w x s inst z range stored hold worlds (got_by m.adts ty.Big o))
        refl (uses_on m b ty.Big o into from number f j box inner i p q k x s here).0 instr here (λ slots. refl) size
        (big_goes m b number f into j box inner i p q k w x s inst z range stored
        (reaches_on m b number f ty.Big into j box inner i p q k w x s hold worlds instr row inst is))
        does

    -- in front of it the box has that number, and the way goes on
    pub goes_big : (n : ℕ) → suc j < size_at m f.of.answer (of_function m f) p.frame.pc (Some instr)
        → ((now : Facts) (v : Shared) (y : World) → Boxing m number f ty.Big into (suc j) box filled_words now i y p next → HoldTheSame m now i y p next
        → (sides m).worlds now v y → number_at kind.Big filled_words (pos 0) ≡ Found z → Next m b i p n now v y next)
        → Next m b i p (suc n) k w x q
    goes_big n more rest =
        let bare = big_bare m b number f into j box inner i p q k w x s inst z range stored in
        let kind = big_kind m b number f into j box inner i p q k w x s inst z range stored in
        let step = big_goes m b number f into j box inner i p q k w x s inst z range stored
        (reaches_on m b number f ty.Big into j box inner i p q k w x s hold worlds instr row inst is) in
        let world = world_on m b number f ty.Big into j box inner i p q k w x s hold worlds filled_words bare kind in
        let boxing = boxing_on m b number f ty.Big into j box inner i p q k w x s hold worlds filled_words bare kind in
        let alike = alike_on m b number f ty.Big into j box inner i p q k w x s hold worlds filled_words bare kind in
        let live = b.there_again x world q next step worlds.0.closed (λ c h. hold.same.live c (hold.same.roots c h)) in
        steps_silently m b i p (suc n) k k w x world q next step
        (changes_on m b number f ty.Big into j box inner i p q k w x s hold worlds filled_words bare kind) alike
        (further m b i p number f instr there in_code refl j q next more s.pc boxing.pc)
        (boxing_way m number f ty.Big into b n (suc j) box filled_words i p next k world boxing
        (boxing_holds m number f ty.Big into b (suc j) box filled_words i p next k world boxing w alike live)
        (λ now v y z h e. rest now v y z h e (big_read m b number f into j box inner i p q k w x s inst _ range stored)))

-- an int comes to pass through the frame's linkage, and the way goes on
module _ (m : typed.Module) (b : Base m) (t : Ty) (o : Work) (into : ℕ) (from : List ℕ) (number : ℕ) (f : typed.Function)
    (there : slice_get m.functions number ≡ Some f) (i : ℕ) (p : code.Process)
    (here : slice_get p.frame.code p.frame.pc ≡ Some (gives m b t o into from))
    (in_code : slice_get (of_function m f).code p.frame.pc ≡ Some (gives m b t o into from))
    (row : RowStands m number f p.frame.pc (gives m b t o into from))
    (j box : ℕ) (inner : List Word) (q : Process) (k : Facts) (w : Shared) (x : World) (s : Boxing m number f t into j box inner k i x p q)
    (hold : HoldTheSame m k i x p q) (worlds : (sides m).worlds k w x) where
  module _ (inst : Inst) (is : slice_get (code_of (site_of m number f p.frame.pc row.at) (gives m b t o into from)) j ≡ Some inst) (words : List Word)
      (changes : Changes q.frame.words words passing_place 4) (ranged : AreInRange words)
      (obeys : obey frames_limit (object_of m) x q inst inst.op ≡ passing.after x q (passing_leads m b number f t into j box inner i p q k w x s).place words) where
    abbrev pub passed : Process
    passed = moved_to q (suc q.frame.pc) words

    pub passes_words : (n : ℕ) → suc j < size_at m f.of.answer (of_function m f) p.frame.pc (Some (gives m b t o into from))
        → ((now : Facts) (v : Shared) (y : World) → Boxing m number f t into (suc j) box inner now i y p passed → HoldTheSame m now i y p passed
        → (sides m).worlds now v y → Next m b i p n now v y passed)
        → Next m b i p (suc n) k w x q
    passes_words n more rest =
        let step = passed_goes m b number f t into j box inner i p q k w x s inst words changes ranged obeys
        (reaches_on m b number f t into j box inner i p q k w x s hold worlds (gives m b t o into from) row inst is) in
        let boxing = boxing_passed m b number f t into j box inner i p q k w x s inst words changes ranged obeys in
        let live = b.there_again x x q passed step worlds.0.closed (λ c h. hold.same.live c (hold.same.roots c h)) in
        steps_silently m b i p (suc n) k k w x x q passed step (nothing_changes m k i x) worlds
        (further m b i p number f (gives m b t o into from) there in_code refl j q passed more s.pc boxing.pc)
        (boxing_way m number f t into b n (suc j) box inner i p passed k x boxing
        (boxing_holds m number f t into b (suc j) box inner i p passed k x boxing w worlds live)
        (λ now v y z' h e. rest now v y z' h e))

  -- as a number that is stored
  pub passes_int : (inst : Inst) (is : slice_get (code_of (site_of m number f p.frame.pc row.at) (gives m b t o into from)) j ≡ Some inst) (z : ℤ)
      (range : InRange kind.Int z)
      (stored : StoresNumber (obey frames_limit (object_of m) x q inst inst.op) x q (passing_leads m b number f t into j box inner i p q k w x s).place kind.Int
      q.frame.words passing_place z)
      (n : ℕ) → suc j < size_at m f.of.answer (of_function m f) p.frame.pc (Some (gives m b t o into from))
      → ((now : Facts) (v : Shared) (y : World) → Boxing m number f t into (suc j) box inner now i y p (moved_to q (suc q.frame.pc) stored.0.others)
      → HoldTheSame m now i y p (moved_to q (suc q.frame.pc) stored.0.others)
      → (sides m).worlds now v y → number_at kind.Int stored.0.others (pos passing_place) ≡ Found z
      → Next m b i p n now v y (moved_to q (suc q.frame.pc) stored.0.others))
      → Next m b i p (suc n) k w x q
  passes_int inst is z range stored n more rest =
      passes_words inst is stored.0.others (stored.0.changes (λ e. absurd cc)) (stored.0.ranged range s.stands.is.words.kind.ranged) stored.1 n more
      (λ now v y t h e. rest now v y t h e (stored.0.there range))
