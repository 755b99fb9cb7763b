-- Parts of what a `ref` names that are read into slots.
use Rattle.std.proofs.Common.{◌≡◌, ℕ, ◌+◌, ◌<◌, List, [], ◌∷◌, length, Option, Some, None, refl, sym, ap, ◌∙◌, arith}
use Rattle.std.specs.Prelude.{slice_get}
use Rattle.limbo_types.specs.Types.{Ty}
use Rattle.limbo_typed.specs.Typed as typed
use Rattle.limbo_kept.specs.Trees.{WayIs}
use Rattle.dis_meaning.specs.Words.{Refer, Found}
use Rattle.limbo_meaning.specs.Exceptions.{dereference_of_nil}
use Rattle.limbo_meaning.specs.Places.{Target}
use Rattle.limbo_meaning.specs.Process.{Shared}
use Rattle.limbo_meaning.specs.Trees.{Read}
use Rattle.system_model.specs.Limits.{frames_limit}
use Rattle.core_code.specs.Code.{Instr, Give}
use Rattle.core_code.specs.Machine as code
use Rattle.core_typing.specs.Held as held
use Rattle.core_typing.specs.Needs.{AreThese, IsClean}
use Rattle.core_typing.specs.Written.{told}
use Rattle.dis_isa.specs.declared.inst.Operand as isa
use Rattle.dis_isa.specs.declared.inst.Middle.TheVariants as middle
use Rattle.dis_meaning.specs.Process.{Process}
use Rattle.dis_memory.specs.Blocks.{World}
use Rattle.value_words.specs.Forms.{Adts}
use Rattle.value_words.specs.Facts.{Facts, IsName}
use Rattle.value_frames.specs.Frames.{reference_place}
use Rattle.value_frames.specs.Frames as frames
use Rattle.value_moves.specs.Operands.{Code, inst, behind}
use Rattle.value_code.specs.Objects.{object_of, of_function, size_at, blank_site, or_nothing}
use Rattle.value_code.specs.Operands.{in_slot, adt_of}
use Rattle.value_code.specs.Code.{Site, code_of}
use Rattle.value_follows.specs.Stands.{Ready, scope, types_of}
use Rattle.value_follows.specs.Sides.{sides, HoldTheSame}
use Rattle.value_follows.specs.Rows.{Base}
use Rattle.value_follows.proofs.Standing.{same_some, finds, code_here}
use Rattle.value_follows.proofs.Slots.{uses}
use Rattle.value_follows.proofs.Single.{Once}
use Rattle.rows_places.specs.Rows.{IsSimple, way_from, TargetsGo}
use Rattle.rows_places.proofs.Fitting.{PlacesFit, places_fit}
use Rattle.rows_places.proofs.Going.{going_on}
use Rattle.rows_places.proofs.Last.{simple_op, site_now, raised_here}
use Rattle.rows_places.proofs.Places.{TargetIs, target_is, at_target, no_target, target_place}
use Rattle.rows_places.proofs.Nil.{nil_raises}
use Rattle.rows_places.proofs.Reading.{read_code, does_raise, read_place}

module _ (m : typed.Module) (b : Base m) (fit : PlacesFit m) (t : Ty) (part : List ℕ) (into r0 : ℕ) (rs : List ℕ) (simple : IsSimple t)
    (k : Facts) (i : ℕ) (w : Shared) (x : World) (p : code.Process) (q : Process) (ready : Ready m k i x p q) (hold : HoldTheSame m k i x p q) (worlds : (sides m).worlds k w x)
    (here : slice_get p.frame.code p.frame.pc ≡ Some (Give t (Read (way_from Target part)) into (r0 ∷ rs))) where
  abbrev instr : Instr
  instr = Give t (Read (way_from Target part)) into (r0 ∷ rs)

  abbrev f : typed.Function
  f = ready.stands.is.function

  abbrev at : ℕ
  at = q.frame.pc

  so_far : at ≡ q.frame.pc + 0
  so_far = omega arith

  abbrev real : Site
  real = site_now m b k i w x p q ready hold worlds instr here at q.printing 0 so_far

  module _ (used : into < length p.frame.slots) (clean : IsClean (held.slot ready.stands.is.known into)) (us : List Ty)
      (is : WayIs (scope m f) (way_from Target part) us t) (below : r0 < length p.frame.slots) (these : AreThese ready.stands.is.known (r0 ∷ rs) us)
      (target : TargetIs m k i w x p q ready hold worlds at q.printing part us t is r0 rs below these)
      (same : or_nothing (told (of_function m f).code p.frame.pc r0) ≡ target.type) where
    abbrev leads_by : isa.Operand
    leads_by = at_target m k i w x p q ready hold worlds at q.printing part us t is r0 rs below these target.type

    -- the code of the row, which reads by what is told of the slot
    code_is : (c : Site) → c.scene ≡ real.scene → c.told r0 ≡ target.type
        → code_of c instr ≡ inst (simple_op t) leads_by middle.None (in_slot real.scene t into) ∷ []
    code_is c e g =
        read_code c t Target part into (r0 ∷ rs) simple
        ∙ ap (λ s. inst (simple_op t) (behind (reference_place s.adts s.variables r0) (frames.within s.adts (adt_of s (c.told r0)) part)) middle.None (in_slot s t into) ∷ []) e
        ∙ ap (λ u. inst (simple_op t) (behind (reference_place m.adts (types_of m f) r0) (frames.within m.adts (adt_of real.scene u) part)) middle.None (in_slot real.scene t into) ∷ []) g

    size_is : size_at m f.of.answer (of_function m f) p.frame.pc (Some instr) ≡ 0 + 1
    size_is = ap (λ (l : Code). length l) (code_is (blank_site m f.of.answer (of_function m f) p.frame.pc) refl same)

    begins : slice_get (code_of real instr) 0 ≡ Some (inst (simple_op t) leads_by middle.None (in_slot real.scene t into))
    begins = ap (λ (l : Code). slice_get l 0) (code_is real refl same)

    once_read : Once m b i p q k w x
    once_read = go target.ref.refers target.ref.name refl refl target.ref.named
      where
        go : (r n : Option ℕ) → target.ref.refers ≡ r → target.ref.name ≡ n → IsName k (Some (Adts is.begins.0)) r n → Once m b i p q k w x
        go None None e g h =
            raised_here m b k i w x p q ready hold worlds instr here at q.printing 0 so_far
            (inst (simple_op t) leads_by middle.None (in_slot real.scene t into)) begins dereference_of_nil
            (nil_raises frames_limit (object_of m) x q (reference_place m.adts (types_of m f) r0) (frames.within m.adts (adt_of real.scene target.type) part)
            (target.ref.word ∙ ap (λ (o : Option ℕ). Found (Refer o)) e) (in_slot real.scene t into) t simple)
            (does_raise m b k i w x p q ready hold worlds t Target part into (r0 ∷ rs) here dereference_of_nil
            (no_target m k i w x p q ready hold worlds at q.printing part us t is r0 rs below these target g))
        go (Some s) (Some n) e g h =
            read_place m b k i w x p q ready hold worlds t Target part into (r0 ∷ rs) here used clean simple at q.printing 0 so_far size_is
            leads_by (target_place m k i w x p q ready hold worlds at q.printing part us t is r0 rs below these target s n e g) begins
        go None (Some n) e g h = absurd h
        go (Some s) None e g h = absurd h

  target_read : Once m b i p q k w x
  target_read =
      let row_is = code_here m k i x p q ready instr here in
      let found = finds m f p.frame.pc ready.stands.is.known instr ready.stands.goes row_is in
      let used = uses m k i x [] p.frame q.frame ready.stands.is p.frame.pc instr row_is in
      let target = target_is m k i w x p q ready hold worlds at q.printing part found.0 t found.2.0 r0 rs used.1.0 found.1 in
      let told_is = (fit.operands f p.frame.pc ready.stands.is.known instr ready.stands.goes row_is).0 in
      let same = ap or_nothing told_is.2 ∙ same_some told_is.0 target.type (sym told_is.1 ∙ target.known) in
      once_read used.0 found.3 found.0 found.2.0 used.1.0 found.1 target same

-- operands of such a place are there
has_first : (m : typed.Module) (f : typed.Function) (known : held.Slots) (t : Ty) (part : List ℕ) (us : List Ty)
    → WayIs (scope m f) (way_from Target part) us t → AreThese known [] us → ⊥
has_first m f known t part [] is these = let e = is.begins.2.1 in absurd cc
has_first m f known t part (u ∷ us) is these = these

pub targets_go : TargetsGo
targets_go m b t part into [] simple k i x p q ready here =
    let r = ready.0 in
    let f = r.stands.is.function in
    let instr = Give t (Read (way_from Target part)) into [] in
    let found = finds m f p.frame.pc r.stands.is.known instr r.stands.goes (code_here m k i x p q r instr here) in
    absurd (has_first m f r.stands.is.known t part found.0 found.2.0 found.1)
targets_go m b t part into (r0 ∷ rs) simple k i x p q ready here = (
  0,
  going_on m b i p q q (λ n. refl) 0 k x ready.0 ready.1 (λ now w y s grows same hold worlds.
      target_read m b (places_fit m) t part into r0 rs simple now i w y p q s hold worlds here),
)
