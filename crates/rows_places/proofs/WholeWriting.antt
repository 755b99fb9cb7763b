-- Writes of values of parts and of bigs: what comes to a place by the last instruction of the row.
use Rattle.std.proofs.Common.{◌≡◌, ◌⊎◌, ℕ, ℤ, Bool, true, suc, pos, ◌+◌, ◌*◌, ◌<◌, ◌≤◌, List, [], ◌∷◌, ◌++◌, length, Option, Some, None, refl, sym, ap, ◌∙◌, subst, arith, inl, inr}
use Rattle.std.specs.Prelude.{slice_get}
use Rattle.std.specs.Int.{next_multiple_of}
use Rattle.std.proofs.lemmas.Int.{ints}
use Rattle.heap_model.specs.Heap.{at, in_one, there as is_live}
use Rattle.system_model.specs.Limits.{frames_limit}
use Rattle.limbo_types.specs.Types as ty
use Rattle.limbo_types.specs.Types.{Ty}
use Rattle.limbo_layout.specs.Adts.{Has}
use Rattle.limbo_typed.specs.Typed as typed
use Rattle.limbo_values.specs.declared.number.Kind.TheVariants as kind
use Rattle.limbo_values.specs.declared.number.Kind.TheVariants.{Int}
use Rattle.limbo_values.specs.Numbers.{InRange}
use Rattle.limbo_values.proofs.Ranges.{within}
use Rattle.limbo_meaning.specs.Places.{Root, part_at}
use Rattle.limbo_meaning.specs.Process.{Shared}
use Rattle.limbo_meaning.specs.Values.{Value, Num, nothing, fitted, zero_of}
use Rattle.core_code.specs.Code.{Instr, Write}
use Rattle.core_code.specs.Machine as code
use Rattle.core_code.specs.Slots.{slot, value_of}
use Rattle.core_code.proofs.Rounds.{rounds_give_rooms}
use Rattle.core_typing.specs.Held as held
use Rattle.core_typing.specs.Held.{type_held}
use Rattle.core_typing.specs.Needs.{Fills}
use Rattle.core_typing.specs.Going.{IsTold}
use Rattle.core_typing.specs.Written.{told}
use Rattle.dis_isa.specs.declared.inst.Inst.{Inst}
use Rattle.dis_isa.specs.declared.inst.Operand as isa
use Rattle.dis_isa.specs.declared.inst.Operand.TheVariants as operand
use Rattle.dis_isa.specs.declared.inst.Middle.TheVariants as middle
use Rattle.dis_isa.specs.declared.op.Op.TheVariants as op
use Rattle.dis_meaning.specs.Words.{Word, Refer, Access, Found, Raises, ◌>>=◌, word_at}
use Rattle.dis_memory.specs.Raising.{nil_text}
use Rattle.dis_memory.specs.Places as places
use Rattle.dis_memory.specs.Results.{gives_number_at}
use Rattle.rows_places.proofs.Stopping.{whole_stops}
use Rattle.dis_meaning.specs.Process.{Process, Printing}
use Rattle.dis_meaning.specs.Places.{Spot}
use Rattle.dis_memory.specs.Blocks.{Block, World}
use Rattle.dis_memory.specs.Places.{given_of}
use Rattle.dis_memory.specs.Step.{obey}
use Rattle.value_words.specs.Facts.{Facts}
use Rattle.value_words.specs.Stands.{Stands, a_number}
use Rattle.value_moves.proofs.Changing.{low_or_high}
use Rattle.value_heaps.proofs.Words.{named_by}
use Rattle.value_frames.specs.Frames.{Boxed, form_of, room_for}
use Rattle.value_frames.specs.Types.{desc}
use Rattle.value_moves.specs.Operands.{Code, inst, behind, moved}
use Rattle.value_moves.specs.Spots as spots
use Rattle.value_moves.specs.Writing.{Lies, Writes}
use Rattle.value_moves.specs.Changing.{Changes}
use Rattle.value_moves.proofs.Leading.{spots_lead}
use Rattle.value_moves.proofs.Moving.{values_move}
use Rattle.value_code.specs.Data.{OfRecord}
use Rattle.value_code.specs.Objects.{object_of, of_function, constants_from, placed, type_number, blank_site, or_nothing}
use Rattle.value_code.specs.Operands.{part_in_slot}
use Rattle.value_code.specs.Code.{Site, put_or_zero, zeroed, zero_data}
use Rattle.value_code.proofs.Having.{objects_have}
use Rattle.number_effects.specs.Giving.{after}
use Rattle.number_effects.proofs.Numbers.{numbers_work}
use Rattle.number_effects.proofs.Reading.{operands_are_read}
use Rattle.value_follows.specs.Stands.{Ready, scope}
use Rattle.value_follows.specs.Sides.{sides, contents, HoldTheSame}
use Rattle.value_follows.specs.Rows.{Base}
use Rattle.value_follows.proofs.Standing.{same_some, instance_here, code_here}
use Rattle.value_follows.proofs.Several.{row_now}
use Rattle.value_follows.proofs.Slots.{number_there}
use Rattle.rows_places.specs.Rows.{way_from}
use Rattle.rows_boxes.proofs.Typed.{is_sized}
use Rattle.rows_places.proofs.Sizing.{front_of, many_of, IsOnWay, last_moves, front_long}
use Rattle.rows_places.proofs.Going.{at_place_of}
use Rattle.rows_places.proofs.Last.{site_now}
use Rattle.rows_places.proofs.Giving.{put_value}
use Rattle.rows_places.proofs.Storing.{writes_again, lies_again}
use Rattle.rows_places.proofs.Sources.{slot_reads}
use Rattle.rows_places.proofs.Wholes.{written_from, put_whole, LiesThere, slot_lies, whole_form}

-- ---- zeros among the constants

abbrev HasParts : Ty → Type 0
HasParts (ty.Tuple ts) = Unit {0}
HasParts (ty.Adt n) = Unit {0}
HasParts t = ⊥

zero_among : (m : typed.Module) (at : ℕ) (t : Ty) → HasParts t → Has (constants_from m at (zero_data t)) (placed m at t (zero_of m.adts t))
zero_among m at (ty.Tuple ts) h = inl refl
zero_among m at (ty.Adt n) h = inl refl
zero_among m at t h = absurd h

zero_code : (c : Site) (t : Ty) (d : isa.Operand) → HasParts t
    → zeroed c.scene.adts t (c.type_number (OfRecord t)) c.at d ≡ moved c.scene.adts t (c.type_number (OfRecord t)) (operand.Mp (pos c.at)) d
zero_code c (ty.Tuple ts) d h = refl
zero_code c (ty.Adt n) d h = refl
zero_code c t d h = absurd h

-- ---- what one instruction puts to where an operand leads

module _ (m : typed.Module) (k : Facts) (x : World) (now : Process) where
  pub record Puts (target : List Word) (to : ℕ) (place : Spot) (t : Ty) (v : Value) (move : Inst) : Type 0 where
    pub others : List Word
    pub source : List Word
    pub from : ℕ
    pub writes : Writes target others to source from (room_for m.adts t).size
    pub lies : Lies m.adts k others to t (room_for m.adts t) v
    pub lives : (u wd : ℕ) → slice_get others wd ≡ Some (Refer (Some u)) → is_live (at x.heap u) ≡ true
    pub obeys : obey frames_limit (object_of m) x now move move.op ≡ after x now place others

module _ (m : typed.Module) (b : Base m) (k : Facts) (i : ℕ) (w : Shared) (x : World) (p : code.Process) (q : Process) (ready : Ready m k i x p q)
    (hold : HoldTheSame m k i x p q) (worlds : (sides m).worlds k w x) (t : Ty) (root : Root) (part operands taken : List ℕ) (from : ℕ)
    (here : slice_get p.frame.code p.frame.pc ≡ Some (Write t (way_from root part) operands taken from)) (form : form_of t ≡ Boxed) (c : Bool)
    (is_so : is_sized m.adts t ≡ c)
    (pc : ℕ) (pr : Option Printing) (j : ℕ) (so_far : pc ≡ q.frame.pc + j) where
  abbrev instr : Instr
  instr = Write t (way_from root part) operands taken from

  abbrev f : typed.Function
  f = ready.stands.is.function

  abbrev known : held.Slots
  known = ready.stands.is.known

  abbrev now : Process
  now = at_place_of q pc pr

  abbrev real : Site
  real = site_now m b k i w x p q ready hold worlds instr here pc pr j so_far

  abbrev blank : Site
  blank = blank_site m f.of.answer (of_function m f) p.frame.pc

  abbrev val : Value
  val = part_at taken (value_of (slot p.frame.slots from))

  type_there : slice_get (object_of m).types (type_number m (OfRecord t))
      ≡ Some (desc (next_multiple_of (room_for m.adts t).size 4) (room_for m.adts t).references)
  type_there =
      objects_have.types m ready.stands.is.number f p.frame.pc instr (OfRecord t) ready.stands.is.there (code_here m k i x p q ready instr here) (inl refl)

  -- What the instruction that writes is and does, wherever it writes.
  abbrev pub PutsTo : (d : isa.Operand) → Type 0
  PutsTo d =
      (target : List Word) (to : ℕ) (leads : spots.Leads x now d target to) (old : Value) → Lies m.adts k target to t (room_for m.adts t) old →
      ((u wd : ℕ) → slice_get target wd ≡ Some (Refer (Some u)) → is_live (at x.heap u) ≡ true) →
      (move : Inst) × (put_or_zero real (real.told from) t d taken from ≡ front_of c (room_for m.adts t).size ++ move ∷ [])
      × Puts m k x now target to leads.place t (fitted m.adts t val) move

  -- and that it raises where it writes to what a word refers to that refers to nothing
  abbrev pub Stops : Type 0
  Stops =
      (r off : ℕ) → word_at q.frame.words (pos r) ≡ Found (Refer None) →
      (move : Inst) × (put_or_zero real (real.told from) t (behind r off) taken from ≡ front_of c (room_for m.adts t).size ++ move ∷ [])
      × (obey frames_limit (object_of m) x now move move.op ≡ Raises nil_text)

  pub record WholeFor : Type 0 where
    -- once its size is on its way, where that comes first
    pub stops : IsOnWay c (room_for m.adts t).size now → Stops
    pub puts : IsOnWay c (room_for m.adts t).size now → (d : isa.Operand) → PutsTo d
    pub code : (d : isa.Operand) → (move : Inst) × (put_or_zero real (real.told from) t d taken from ≡ front_of c (room_for m.adts t).size ++ move ∷ [])
    pub long : (d : isa.Operand) → length (put_or_zero blank (blank.told from) t d taken from) ≡ suc (many_of c)

  -- a value that lies somewhere is moved
  moves : (source : isa.Operand) → LiesThere m k i w x p q ready hold worlds pc pr source t (fitted m.adts t val) → (d : isa.Operand)
      → put_or_zero real (real.told from) t d taken from ≡ moved m.adts t (type_number m (OfRecord t)) source d → IsOnWay c (room_for m.adts t).size now → PutsTo d
  moves source s d code_is so target to leads old lies lives =
      let r = room_for m.adts t in
      let n = type_number m (OfRecord t) in
      let move = last_moves m.adts t n source d c form is_so in
      let room = values_move.room m.adts k target to t r old lies in
      let mv = move.2 k frames_limit (object_of m) x now (fitted m.adts t val) s.words target s.byte to s.leads leads s.lies room type_there so in (
        move.0,
        code_is ∙ move.1,
        record {
          others = mv.0;
          source = s.words;
          from = s.byte;
          writes = mv.1;
          lies = (values_move.stands m.adts k s.words target mv.0 s.byte to t r (fitted m.adts t val) s.lies room mv.1).0;
          lives = λ u wd e. elim (written_from target mv.0 s.words to s.byte r.size mv.1 u wd e) [
            | inl was ↦ lives u wd was
            | inr new ↦ s.lives u new.0 new.1
          ];
          obeys = mv.2;
        },
      )

  moves_stop : (source : isa.Operand) → LiesThere m k i w x p q ready hold worlds pc pr source t (fitted m.adts t val)
      → ((d : isa.Operand) → put_or_zero real (real.told from) t d taken from ≡ moved m.adts t (type_number m (OfRecord t)) source d)
      → IsOnWay c (room_for m.adts t).size now → Stops
  moves_stop source s code_is so r off none =
      let n = type_number m (OfRecord t) in
      let d = behind r off in
      let move = last_moves m.adts t n source d c form is_so in (
        move.0,
        code_is d ∙ move.1,
        whole_stops m k (object_of m) x now t (fitted m.adts t val) n source s.words s.byte s.leads s.lies form c is_so so type_there r off none move.0 move.1,
      )

  -- the zero of a big is an immediate
  big_range : InRange kind.Big (pos 0)
  big_range = record { above = omega (arith, ints); below = omega (arith, ints) }

  big_once : t ≡ ty.Big → (move : Inst) → move ∷ [] ≡ front_of c (room_for m.adts t).size ++ move ∷ []
  big_once e move = ap (λ (z : Bool). front_of z (room_for m.adts t).size ++ move ∷ []) (ap (is_sized m.adts) (sym e) ∙ is_so)

  big_zero : t ≡ ty.Big → val ≡ nothing → (d : isa.Operand)
      → put_or_zero real (real.told from) t d taken from ≡ inst op.Movl (operand.Imm (pos 0)) middle.None d ∷ [] → PutsTo d
  big_zero e empty d code_is target to leads old lies lives =
      let o = number_there m.adts k target to t old kind.Big e lies.stands in
      let move = inst op.Movl (operand.Imm (pos 0)) middle.None d in
      let n = numbers_work.moves frames_limit (object_of m) x now move kind.Big (pos 0) target to leads o.number refl
      (operands_are_read.source_given x now kind.Big (pos 0)) o.found in
      let changes = n.0.changes (λ g. absurd cc) in
      let changes_t = subst (λ u. Changes target n.0.others to (room_for m.adts u).size) (sym e) changes in
      let ranged = n.0.ranged big_range lies.whole.1 in
      let is : fitted m.adts t val ≡ Num (pos 0) =
      ap (λ (u : Ty). fitted m.adts u val) e ∙ ap (λ (v : Value). fitted m.adts ty.Big v) empty ∙ ap (λ (z : ℤ). Num z) (within kind.Big (pos 0) big_range) in (
        move,
        code_is ∙ big_once e move,
        record {
          others = n.0.others;
          source = n.0.others;
          from = to;
          writes = writes_again target n.0.others to (room_for m.adts t).size changes_t ranged;
          lies = lies_again m.adts k target n.0.others to (room_for m.adts t).size t (room_for m.adts t) old (fitted m.adts t val) changes_t ranged lies
              (subst (λ u. Stands m.adts k n.0.others to u (fitted m.adts t val)) (sym e)
              (subst (λ v. Stands m.adts k n.0.others to ty.Big v) (sym is) (a_number to kind.Big (pos 0) (n.0.there big_range) big_range)));
          lives = λ u wd g. lives u wd (sym (changes.words wd (apart wd u g (subst (λ u. Lies m.adts k target to u (room_for m.adts u) old) e lies) changes)) ∙ g);
          obeys = n.1;
        },
      )
    where
      apart : {target others : List Word} {to : ℕ} {old : Value} → (wd u : ℕ) → slice_get others wd ≡ Some (Refer (Some u))
          → Lies m.adts k target to ty.Big (room_for m.adts ty.Big) old → Changes target others to 8 → (4 * wd + 4 ≤ to) ⊎ (to + 8 ≤ 4 * wd)
      apart {to = to} wd u g lies changes = elim (low_or_high (4 * wd) to) [
        | inl low ↦ let a = lies.aligned in inl (omega (arith, a, low))
        | inr high ↦ elim (low_or_high (4 * wd) (to + 8)) [
          | inl inside ↦
              let r = changes.refer wd (Some u) g in
              let h = lies.only wd r.0 r.1 (high, inside) in
              absurd h.1
          | inr past ↦ inr past
        ]
      ]

  big_stops : t ≡ ty.Big → ((d : isa.Operand) → put_or_zero real (real.told from) t d taken from ≡ inst op.Movl (operand.Imm (pos 0)) middle.None d ∷ []) → Stops
  big_stops e code_is r off none = (
    inst op.Movl (operand.Imm (pos 0)) middle.None (behind r off),
    code_is (behind r off) ∙ big_once e (inst op.Movl (operand.Imm (pos 0)) middle.None (behind r off)),
    ap (λ (c : Access Word). (c >>= λ w. places.behind w (pos off)) >>= λ d. gives_number_at x now kind.Big d (Found (pos 0))) none,
  )

  -- that of a value of parts stands among the constants
  zero_lies : HasParts t → val ≡ nothing → LiesThere m k i w x p q ready hold worlds pc pr (operand.Mp (pos real.at)) t (fitted m.adts t val)
  zero_lies parts empty =
      let instance = instance_here m b k i w x p q [] ready.stands.is hold worlds.0 in
      let row = row_now m b k i w x p q ready hold worlds instr here in
      let c = instance.2 (placed m real.at t (zero_of m.adts t)) (row.stand (placed m real.at t (zero_of m.adts t)) (zero_among m real.at t parts)) in
      let room : room_for m.adts t ≡ c.room = rounds_give_rooms.rooms m.adts t c.room c.laid in
      record {
        words = instance.0;
        byte = real.at;
        leads = (spots_lead.of_module x now 0 instance.0 real.at instance.1).0;
        lies = subst (λ v. Lies m.adts k instance.0 real.at t (room_for m.adts t) (fitted m.adts t v)) (sym empty)
            (subst (λ r. Lies m.adts k instance.0 real.at t r (zero_of m.adts t)) (sym room) (record {
              laid = c.laid;
              aligned = c.aligned;
              whole = c.whole;
              only = c.refer_only;
              stands = c.stands;
            }));
        lives = λ u wd e.
            worlds.0.closed.closed q.frame.instance u (ap is_live instance.1)
            (subst (λ (o : Option Block). 0 < in_one (contents m).words o u) (sym instance.1) (named_by instance.0 wd u e));
      }

  zero_for : (tells : or_nothing (told (of_function m f).code p.frame.pc from) ≡ ty.Nothing) → val ≡ nothing → WholeFor
  zero_for tells empty = go t refl
    where
      code_told : (c : Site) → c.told from ≡ ty.Nothing → (d : isa.Operand)
          → put_or_zero c (c.told from) t d taken from ≡ zeroed c.scene.adts t (c.type_number (OfRecord t)) c.at d
      code_told c e d = ap (λ u. put_or_zero c u t d taken from) e

      of_parts : HasParts t → WholeFor
      of_parts parts = record {
        long = λ d.
            let last = last_moves m.adts t (blank.type_number (OfRecord t)) (operand.Mp (pos blank.at)) d c form is_so in
            ap (λ (l : Code). length l) (code_told blank tells d ∙ zero_code blank t d parts ∙ last.1) ∙ front_long c (room_for m.adts t).size last.0;
        code = λ d.
            let last = last_moves m.adts t (type_number m (OfRecord t)) (operand.Mp (pos real.at)) d c form is_so in
            (last.0, code_told real tells d ∙ zero_code real t d parts ∙ last.1);
        puts = λ so d. moves (operand.Mp (pos real.at)) (zero_lies parts empty) d (code_told real tells d ∙ zero_code real t d parts) so;
        stops = moves_stop (operand.Mp (pos real.at)) (zero_lies parts empty) (λ d. code_told real tells d ∙ zero_code real t d parts);
      }

      go : (u : Ty) → t ≡ u → WholeFor
      go ty.Big e = record {
        long = λ d.
            let move = inst op.Movl (operand.Imm (pos 0)) middle.None d in
            ap (λ (l : Code). length l) (code_told blank tells d ∙ ap (λ (u : Ty). zeroed m.adts u (blank.type_number (OfRecord u)) blank.at d) e ∙ big_once e move)
            ∙ front_long c (room_for m.adts t).size move;
        code = λ d.
            let move = inst op.Movl (operand.Imm (pos 0)) middle.None d in
            (move, code_told real tells d ∙ ap (λ (u : Ty). zeroed m.adts u (type_number m (OfRecord u)) real.at d) e ∙ big_once e move);
        puts = λ so d. big_zero e empty d (code_told real tells d ∙ ap (λ (u : Ty). zeroed m.adts u (type_number m (OfRecord u)) real.at d) e);
        stops = λ so. big_stops e (λ d. code_told real tells d ∙ ap (λ (u : Ty). zeroed m.adts u (type_number m (OfRecord u)) real.at d) e);
      }
      go (ty.Tuple ts) e = of_parts (subst HasParts (sym e) tt)
      go (ty.Adt n) e = of_parts (subst HasParts (sym e) tt)
      go u e = absurd (let h = ap form_of e in cc)

  -- A slot that is told to have the value without parts has it.
  is_empty : from < length p.frame.slots → type_held (held.slot known from) ≡ Some ty.Nothing → value_of (slot p.frame.slots from) ≡ nothing
  is_empty below e =
      let s = slot_reads m k i w x p q ready hold worlds pc pr from below ty.Nothing e in
      s.holds ∙ (s.reads.nowhere refl).0

  pub whole_for : from < length p.frame.slots → IsTold (told (of_function m f).code p.frame.pc) known from → Fills (scope m f) known t taken from
      → WholeFor
  whole_for below tells (inl (u, e, room, (y, leads, fits))) =
      let same : tells.0 ≡ u = same_some tells.0 u (sym tells.1 ∙ e) in
      let told_is : or_nothing (told (of_function m f).code p.frame.pc from) ≡ u = ap or_nothing tells.2 ∙ same in
      let some : u ≡ ty.Nothing → ⊥ = λ n. not_boxed (whole_form m k i w x p q ready hold worlds pc pr from below u e room taken y t leads fits form) n in
      let code_of_it : (c : Site) → c.told from ≡ u → (d : isa.Operand)
      → put_or_zero c (c.told from) t d taken from ≡ moved c.scene.adts t (c.type_number (OfRecord t)) (part_in_slot c.scene u taken from) d =
      λ c h d. ap (λ v. put_or_zero c v t d taken from) h ∙ put_value c u t d taken from some ∙ put_whole c t d taken from form
      ∙ ap (λ v. moved c.scene.adts t (c.type_number (OfRecord t)) (part_in_slot c.scene v taken from) d) h in
      record {
        long = λ d.
            let last = last_moves m.adts t (blank.type_number (OfRecord t)) (part_in_slot blank.scene u taken from) d c form is_so in
            ap (λ (l : Code). length l) (code_of_it blank told_is d ∙ last.1) ∙ front_long c (room_for m.adts t).size last.0;
        code = λ d.
            let last = last_moves m.adts t (type_number m (OfRecord t)) (part_in_slot real.scene u taken from) d c form is_so in
            (last.0, code_of_it real told_is d ∙ last.1);
        puts = λ so d. moves (part_in_slot real.scene u taken from)
            (slot_lies m k i w x p q ready hold worlds pc pr from below u e room taken y t leads fits form) d (code_of_it real told_is d) so;
        stops = moves_stop (part_in_slot real.scene u taken from)
            (slot_lies m k i w x p q ready hold worlds pc pr from below u e room taken y t leads fits form) (code_of_it real told_is);
      }
    where
      not_boxed : {u : Ty} → form_of u ≡ Boxed → u ≡ ty.Nothing → ⊥
      not_boxed e n = let g = ap form_of n in cc
  whole_for below tells (inr (e, none, room)) =
      let same : tells.0 ≡ ty.Nothing = same_some tells.0 ty.Nothing (sym tells.1 ∙ e) in
      zero_for (ap or_nothing tells.2 ∙ same) (ap (λ (ns : List ℕ). part_at ns (value_of (slot p.frame.slots from))) none ∙ is_empty below e)
