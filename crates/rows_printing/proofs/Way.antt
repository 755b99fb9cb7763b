-- Two processes on their way through the row of a print: the slot of the answer refers to Sys, and a frame is filled.
use Rattle.std.proofs.Common.{◌≡◌, ℕ, suc, pos, ◌<◌, List, [], ◌∷◌, Option, Some, None, sym, ap, ◌∙◌, subst, arith}
use Rattle.std.specs.Prelude.{slice_get}
use Rattle.process_model.specs.Process.{Went}
use Rattle.process_model.specs.Follows.{Only}
use Rattle.process_ways.specs.Ways.{Way}
use Rattle.process_ways.proofs.On.{silent}
use Rattle.heap_model.specs.Heap.{at}
use Rattle.heap_model.specs.Facts.{Is, Carrier, IsFree, IsInner, Covers, refers, chars, itself, Chars}
use Rattle.heap_model.proofs.Heap.{there_is}
use Rattle.heap_model.proofs.Settle.{refers_grows}
use Rattle.limbo_layout.specs.Adts.{Has}
use Rattle.limbo_typed.specs.Typed as typed
use Rattle.limbo_typed.specs.declared.print.Piece.{Piece}
use Rattle.limbo_meaning.specs.Process.{Shared}
use Rattle.core_code.specs.Code.{Instr, Print}
use Rattle.core_code.specs.Machine as code
use Rattle.core_code.specs.Slots as core
use Rattle.core_code.specs.Slots.{slot_names}
use Rattle.dis_meaning.specs.Words.{Word, Refer, Access, Found, word_at}
use Rattle.dis_meaning.specs.Process.{Frame, Process}
use Rattle.dis_meaning.specs.Step.{names as names_in}
use Rattle.dis_memory.specs.Blocks.{Block, Sys, World}
use Rattle.dis_objects.specs.Objects.{sys_imports}
use Rattle.value_words.specs.Facts.{Facts, Grows}
use Rattle.value_frames.specs.Frames.{reference_place}
use Rattle.value_frames.specs.Types.{AreOf}
use Rattle.value_roots.specs.Accounts as accounts
use Rattle.value_roots.specs.Accounts.{Accounted, to_nothing, to_value, to_inner, more, all_words, frame_words}
use Rattle.value_roots.proofs.Later.{several}
use Rattle.value_roots.proofs.Words.{has_counts}
use Rattle.value_follows.specs.Stands.{types_of, Awaited}
use Rattle.value_follows.specs.Sides.{sides, HoldTheSame}
use Rattle.value_follows.specs.Rooted.{PlaceAccounted, AreAccounted}
use Rattle.value_follows.specs.Rows.{place, row_of, Base, AreThere}
use Rattle.value_follows.proofs.Paces.{places_are}
use Rattle.value_follows.proofs.RootedValues.{has_at, word_has, each_accounted, one_names}
use Rattle.value_follows.proofs.Several.{Next}
use Rattle.rows_calling.proofs.OnTheWay.{On, stands, row_code, rank_here}
use Rattle.rows_calling.proofs.NextRow.{rank_mid}
use Rattle.rows_calling.proofs.Boxing.{slot_accounted, leads_on}

-- the built-in module
abbrev pub sys : Block
sys = Sys (names_in sys_imports)

-- A word of the running frame refers to a block that is Sys for good.
pub record HasSys (k : Facts) (at : ℕ) (q : Process) : Type 0 where
  pub box : ℕ
  pub word : word_at q.frame.words (pos at) ≡ Found (Refer (Some box))
  pub carries : k.fact box ≡ Some (Carrier sys)

pub sys_later : (k now : Facts) (at : ℕ) (q : Process) → Grows k now → HasSys k at q → HasSys now at q
sys_later k now at q grows s = record { box = s.box; word = s.word; carries = grows.facts s.box (Carrier sys) s.carries }

-- What is accounted for by names is so when more is known.
pub covers_later : (k now : Facts) (names : ℕ → ℕ) (b : ℕ) → Grows k now → Covers k (λ n. 0 < names n) b → Covers now (λ n. 0 < names n) b
covers_later k now names b grows (refers n named r) = refers n named (refers_grows k now n b grows r)
covers_later k now names b grows (chars t e) = chars t (grows.facts b (Chars t) e)

-- A frame that is made for a print: its words are of a type, and what they refer to is named, or is a text.
pub record Filled (k : Facts) (names : ℕ → ℕ) (size : ℕ) (offsets : List ℕ) (q : Process) (c : Frame) : Type 0 where
  pub instance : c.instance ≡ q.frame.instance
  pub kind : AreOf size offsets c.words
  pub covered : (b : ℕ) → Has c.words (Refer (Some b)) → Covers k (λ n. 0 < names n) b

pub filled_later : (k now : Facts) (names : ℕ → ℕ) (size : ℕ) (offsets : List ℕ) (q : Process) (c : Frame) → Grows k now
    → Filled k names size offsets q c → Filled now names size offsets q c
filled_later k now names size offsets q c grows f = record {
  instance = f.instance;
  kind = f.kind;
  covered = λ b h. covers_later k now names b grows (f.covered b h);
}

module _ (m : typed.Module) (b : Base m) (i : ℕ) (p : code.Process) (n : ℕ) (f : typed.Function) (ps : List Piece) (into : ℕ) (o : Option ℕ)
    (here : slice_get p.frame.code p.frame.pc ≡ Some (Print ps into o))
    (none : (s : ℕ) → slot_names (core.slot p.frame.slots into) s ≡ 0) where
  abbrev pub instr : Instr
  instr = Print ps into o

  abbrev pub r_at : ℕ
  r_at = reference_place m.adts (types_of m f) into

  abbrev pub size : ℕ
  size = (row_of m f p.frame.pc instr).size

  abbrev names : ℕ → ℕ
  names = code.process_names p

  -- Sys is there
  pub sys_there : (k : Facts) (w : Shared) (x : World) (q : Process) → (s : HasSys k r_at q) → (sides m).worlds k w x → AreThere m x q
      → at x.heap s.box ≡ Some sys
  sys_there k w x q s worlds live =
      let h = has_counts q.frame.words s.box (word_has q.frame.words r_at (Refer (Some s.box)) s.word) in
      let c = there_is (at x.heap s.box) (live s.box (omega (arith, h))) in
      c.1 ∙ ap (λ (d : Block). Some d) (worlds.0.carriers s.box sys c.0 s.carries c.1).0

  sys_accounted : (k : Facts) (w : Shared) (x : World) (q : Process) → HasSys k r_at q → (sides m).worlds k w x → AreThere m x q
      → PlaceAccounted m k i x names q.frame r_at
  sys_accounted k w x q s worlds live r e =
      let found : Found (Refer r) ≡ Found (Refer (Some s.box)) = sym e ∙ s.word in
      let is : Some s.box ≡ r = cc in
      subst (λ (a : Option ℕ). Accounted k i x.heap names (Refer a)) is
      (to_inner s.box sys (subst IsInner (sym s.carries) tt) (sys_there k w x q s worlds live) (λ free. absurd (subst IsFree s.carries free)) accounts.none)

  -- so is what a frame has that is made
  pub filled_accounted : (k : Facts) (x : World) (j : ℕ) (size : ℕ) (offsets : List ℕ) (q : Process) (c : Frame) → (on : On m k i x (into ∷ []) n f j p q)
      → q.made ≡ c ∷ [] → Filled k names size offsets q c → AreAccounted m k i x names (all_words q.made)
  filled_accounted k x j size offsets q c on made fill =
      subst (λ (fs : List Frame). AreAccounted m k i x names (all_words fs)) (sym made)
      (several k i x.heap names (frame_words c) []
      (more (Refer (Some c.instance)) c.words
      (to_value c.instance (refers p.frame.instance first
      (itself (subst (λ (s : ℕ). Is k p.frame.instance s) (sym fill.instance) on.instance))))
      (each_accounted k i x.heap names c.words (λ j b e. to_value b (fill.covered b (has_at c.words j (Refer (Some b)) e)))))
      accounts.none)
    where
      first : 0 < names p.frame.instance
      first = let y = one_names p.frame.instance in omega (arith, y)

  pub print_holds : (k : Facts) (w : Shared) (x : World) (j : ℕ) (q : Process) → (on : On m k i x (into ∷ []) n f j p q) → HasSys k r_at q
      → AreAccounted m k i x names (all_words q.made) → (sides m).worlds k w x → AreThere m x q → HoldTheSame m k i x p q
  print_holds k w x j q on s made worlds live =
      b.holds_on_way k i w x (into ∷ []) Awaited p q (stands m k i x (into ∷ []) n f j p q on) worlds live
      (record {
        slots = slot_accounted m i p f into k x q names (sys_accounted k w x q s worlds live);
        spare = λ r e. subst (λ (o : Option ℕ). Accounted k i x.heap names (Refer o)) (same_refer r (sym on.spare ∙ e)) to_nothing;
        made = made;
        answer = tt;
      })
      (leads_on m i p f into none k x q)
    where
      same_refer : (r : Option ℕ) → ◌≡◌ {A = Access Word} (Found (Refer None)) (Found (Refer r)) → None ≡ r
      same_refer r e = cc

  -- The other stands still while an instruction goes on to the next one of the row, in front of the call.
  pub print_by : (k now : Facts) (w : Shared) (x y : World) (busy : List ℕ) (j : ℕ) (q r : Process) → (on : On m k i x busy n f j p q)
      → HoldTheSame m k i x p q → (sides m).worlds k w x → suc (suc j) < size
      → (sides m).code.step x q ≡ Went y r → (sides m).changes (Only i) k now x y → (sides m).worlds now w y
      → On m now i y (into ∷ []) n f (suc j) p r → HasSys now r_at r → AreAccounted m now i y names (all_words r.made) → (l : ℕ)
      → (HoldTheSame m now i y p r → Way (sides m) (place m) l now i y p r)
      → Next m b i p l k w x q
  print_by k now w x y busy j q r on hold worlds further step changes worlds_then after s made l way =
      let live = b.there_again x y q r step worlds.0.closed (λ n h. hold.same.live n (hold.same.roots n h)) in
      let held = print_holds now w y (suc j) r after s made worlds_then live in
      let before = rank_here m b i p q busy n f j k w x on hold worlds instr here (omega (arith, further))
      ∙ rank_mid (row_of m f p.frame.pc instr) j (omega (arith, further)) in
      let behind = (places_are m).ranked n f p.frame.pc instr (suc j) r after.there (row_code m now i y (into ∷ []) n f (suc j) p r after instr here)
      (omega (arith, further)) after.pc
      ∙ rank_mid (row_of m f p.frame.pc instr) (suc j) further in
      silent (sides m) (place m) (λ l' z r t. Way (sides m) (place m) l l' i z r t) k now i w x y p q r step changes worlds_then
      (omega (arith, before, behind)) (way held)
