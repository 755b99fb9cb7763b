-- A process at the begin of an instruction: what is there, and what one step comes to.
use Rattle.std.proofs.Common.{◌≡◌, ℕ, zero, suc, ◌+◌, ◌≤◌, List, [], ◌∷◌, Some, ap, ◌∙◌, subst, arith, max}
use Rattle.std.specs.Prelude.{slice_get, take}
use Rattle.dis_isa.specs.declared.inst.Inst as code_inst
use Rattle.limbo_values.specs.declared.number.Kind.{Kind}
use Rattle.system_model.specs.Limits.{frames_limit}
use Rattle.typed_meaning.specs.World as program
use Rattle.slot_code.specs.Code.{Inst, Move, Hand, Alter, Operate, Branch, Jump, Skip, Back, Begin, Call, Format, Print, Return, Leave}
use Rattle.slot_code.specs.Code.{Function, Module}
use Rattle.slot_code.specs.Machine as machine
use Rattle.slot_code.specs.Step as slot_step
use Rattle.dis_meaning.specs.Words.{Found, ◌>>=◌, type_check, dead_address, or_wrong, bad_jump}
use Rattle.dis_meaning.specs.World.{World}
use Rattle.dis_meaning.specs.Process as dis
use Rattle.dis_meaning.specs.Process.{Frame, Process}
use Rattle.dis_meaning.specs.Step as dis_step
use Rattle.dis_objects.specs.Frames.{Callee, Calls, Prints, made_at, made_from, made_by, all_bytes, most_bytes, count, inst_count}
use Rattle.dis_objects.specs.Code.{Context, size, sizes, place}
use Rattle.dis_objects.specs.Objects.{context, object_of}
use Rattle.dis_objects.specs.Proper.{IsProper, ProperInst}
use Rattle.dis_follows.specs.Stands.{Known, Grows, Running, WorldStands}
use Rattle.dis_follows.proofs.Lookups.{HasCallee, AllHaveCallees, Coded, coded}
use Rattle.dis_follows.proofs.Rooms.{most_least}
use Rattle.dis_follows.proofs.Frames.{get_within}

-- ---- temporaries that an instruction names

count_of : (k : Kind) (is : List Inst) (pc : ℕ) (i : Inst) → slice_get is pc ≡ Some i → inst_count k i ≤ count k is
count_of k [] pc i e = absurd cc
count_of k (i' ∷ is) zero i e =
    let same : i' ≡ i = cc in subst (λ i. inst_count k i ≤ max (inst_count k i') (count k is)) same (omega arith)
count_of k (i' ∷ is) (suc pc) i e = omega (arith, count_of k is pc i e)

-- ---- proper code calls what it began

proper_callee : (m : Module) (f : Function) (cs : List Callee) (pc : ℕ) (i : Inst) → ProperInst m f cs pc i → HasCallee cs i
proper_callee m f [] pc (Call k g n into) p = absurd (nothing p.0.last)
  where
    nothing : [] ≡ Calls g ∷ p.0.others → ⊥
    nothing e = cc
proper_callee m f [] pc (Print n into) p = absurd (nothing p.0.last)
  where
    nothing : [] ≡ Prints p.0.pieces ∷ p.0.others → ⊥
    nothing e = cc
proper_callee m f [] pc (Move into x) p = tt
proper_callee m f [] pc (Hand into x) p = tt
proper_callee m f [] pc (Alter o into x) p = tt
proper_callee m f [] pc (Operate o into x y) p = tt
proper_callee m f [] pc (Branch k c x y n) p = tt
proper_callee m f [] pc (Jump n) p = tt
proper_callee m f [] pc (Skip n) p = tt
proper_callee m f [] pc (Back n) p = tt
proper_callee m f [] pc (Begin g) p = tt
proper_callee m f [] pc (Format ps) p = tt
proper_callee m f [] pc (Return x) p = tt
proper_callee m f [] pc Leave p = tt
proper_callee m f (c ∷ cs) pc i p = tt

pub have_callees : (m : Module) → IsProper m → AllHaveCallees m.functions
have_callees m proper n f e pc i h = proper_callee m f (made_from [] f.code pc) pc i ((proper.functions n f e).each pc i h)

-- ---- the place in the code

sizes_on : (is : List Inst) (pc : ℕ) (i : Inst) → slice_get is pc ≡ Some i → sizes (take (suc pc) is) ≡ sizes (take pc is) + size i
sizes_on [] pc i e = absurd cc
sizes_on (i' ∷ is) zero i e = let same : i' ≡ i = cc in ap (λ i. size i + 0) same ∙ omega arith
sizes_on (i' ∷ is) (suc pc) i e = omega (arith, sizes_on is pc i e)

pub place_on : (c : Context) (pc : ℕ) (i : Inst) → slice_get c.function.code pc ≡ Some i → place c (suc pc) ≡ place c pc + size i
place_on c pc i e = omega (arith, sizes_on c.function.code pc i e)

-- Behind an instruction what is being made ready is as it says.
pub made_behind : (cs : List Callee) (is : List Inst) (pc : ℕ) (i : Inst) → slice_get is pc ≡ Some i
    → made_from cs is (suc pc) ≡ made_by (made_from cs is pc) i
made_behind cs [] pc i e = absurd cc
made_behind cs (i' ∷ is) zero i e = let same : i' ≡ i = cc in ap (made_by cs) same
made_behind cs (i' ∷ is) (suc pc) i e = made_behind (made_by cs i') is pc i e

-- ---- the step

-- What the machine does is what the instruction at its place does.
pub step_is : (m : Module) (k : Known) (w : program.World) (x : World) (r : Process) (i : code_inst.Inst) (e : dis.Does)
    → WorldStands m k w x → r.frame.instance ≡ 0 → slice_get (object_of m).insts r.frame.pc ≡ Some i
    → dis_step.obey frames_limit (object_of m) x r i i.op ≡ Found e → dis_step.step frames_limit (object_of m ∷ []) x r ≡ e
step_is m k w x r i e ws z at h =
    ap (λ n. dis.or_fault x r (or_wrong dead_address (slice_get x.blocks n) >>= dis_step.object_of
    >>= (λ n. or_wrong type_check (slice_get (object_of m ∷ []) n)) >>= λ o. dis_step.work frames_limit o x r)) z
    ∙ ap (λ bs. dis.or_fault x r (or_wrong dead_address (slice_get bs 0) >>= dis_step.object_of
    >>= (λ n. or_wrong type_check (slice_get (object_of m ∷ []) n)) >>= λ o. dis_step.work frames_limit o x r)) ws.blocks
    ∙ ap (λ o. dis.or_fault x r (or_wrong bad_jump o >>= λ i. dis_step.obey frames_limit (object_of m) x r i i.op)) at
    ∙ ap (dis.or_fault x r) h

-- ---- what is known of the machine

-- As much as before.
pub as_known : (k : Known) → Grows k k
as_known k = record { stays = λ e. e; rises = omega arith }

-- One frame more was made.
abbrev pub with_frame : Known → Known
with_frame k = record { loaded = k.loaded; frames = suc k.frames }

pub more_frames : (k : Known) → Grows k (with_frame k)
more_frames k = record { stays = λ e. e; rises = omega arith }

-- ---- what stands at the process

module _ (m : Module) (proper : IsProper m) (k : Known) (w : program.World) (x : World) (ws : WorldStands m k w x) (p : machine.Process)
    (r : Process) (offset : ℕ) (made : List Frame) (h : Running m k p r offset made) where
  abbrev pub F : Function
  F = h.frame.function

  abbrev pub I : Inst
  I = h.frame.inst

  abbrev pub CS : List Callee
  CS = made_at F.code p.frame.pc

  abbrev pub C : Context
  C = context m p.frame.function F

  pub is_coded : Coded m ws.words C (object_of m).insts (place C p.frame.pc) p.frame.pc CS I
  is_coded = coded m ws.words p.frame.function F p.frame.pc I (have_callees m proper) ws.has.constants h.frame.found h.frame.there

  pub is_proper : ProperInst m F CS p.frame.pc I
  is_proper = (proper.functions p.frame.function F h.frame.found).each p.frame.pc I h.frame.there

  pub blocks_fit : all_bytes m.functions CS ≤ most_bytes m.functions [] F.code
  blocks_fit = let l = get_within F.code p.frame.pc I h.frame.there in most_least m.functions [] F.code p.frame.pc (omega (arith, l))

  pub counted : (j : Kind) → inst_count j I ≤ count j F.code
  counted j = count_of j F.code p.frame.pc I h.frame.there

  -- The step of the other code.
  pub other_step : slot_step.step frames_limit m.functions w p ≡ slot_step.obey frames_limit m.functions w p I
  other_step =
      ap (λ o. slot_step.work frames_limit m.functions w p (slot_step.fetch o p.frame.pc)) h.frame.found
      ∙ ap (slot_step.work frames_limit m.functions w p) h.frame.there
