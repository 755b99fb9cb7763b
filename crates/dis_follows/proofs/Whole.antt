-- The object follows its three-address code.
use Rattle.std.proofs.Common.{◌≡◌, ℕ, zero, suc, ◌-◌, ◌<◌, ◌≤◌, Bool, true, false, List, [], ◌∷◌, ◌++◌, map, Option, Some, None, refl}
use Rattle.std.proofs.Common.{arith, rules, tests, codes, if◌then◌else◌}
use Rattle.std.specs.Prelude.{nat_lt, slice_get}
use Rattle.process_model.specs.Process as doing
use Rattle.process_model.specs.Process.{Doing}
use Rattle.process_model.specs.Follows.{StandsAlike, Follows}
use Rattle.process_model.proofs.NoHeap.{no_heap}
use Rattle.dis_isa.specs.declared.inst.Inst as code_inst
use Rattle.dis_isa.specs.declared.op.Op.{Op}
use Rattle.dis_isa.specs.declared.op.Op.TheVariants as op
use Rattle.limbo_values.specs.declared.number.Kind.TheVariants.{Byte, Int, Big}
use Rattle.limbo_typed.specs.declared.operation.Operation.{Operation}
use Rattle.limbo_typed.specs.declared.operation.Operation.TheVariants as operation
use Rattle.system_model.specs.Values.{Value}
use Rattle.slot_code.specs.Code.{Inst, Move, Hand, Alter, Operate, Branch, Jump, Skip, Back, Begin, Call, Format, Print, Return, Leave}
use Rattle.slot_code.specs.Code.{Function, Module}
use Rattle.slot_code.specs.Machine as machine
use Rattle.dis_meaning.specs.World.{World}
use Rattle.dis_meaning.specs.Process.{Frame, Process}
use Rattle.dis_objects.specs.Code.{size, altering_size, operating_size}
use Rattle.dis_objects.specs.Objects.{find, entry_size, entry_length, object_of}
use Rattle.dis_objects.specs.Proper.{IsProper}
use Rattle.dis_follows.specs.Stands.{Known, Grows, IsMade, Running, Making, Calling, Printing, Entering, Ready, Asking, code_and_object}
use Rattle.dis_follows.specs.Stands.{sides}
use Rattle.dis_follows.specs.Stands as stands
use Rattle.dis_follows.specs.Paces.{all_sizes, within, last_rank, op_rank, rank, place}
use Rattle.dis_follows.proofs.Runs.{as_known}
use Rattle.dis_follows.proofs.Each.{goes}
use Rattle.dis_follows.proofs.Replies.{answers_alike}

-- ---- the bound

under : (a b : ℕ) → nat_lt a b ≡ true → a < b
under a b h = search (rules, tests, h)

altering_small : (o : Operation) → altering_size o ≤ 5
altering_small (operation.Alter u k) = omega arith
altering_small operation.Not = omega arith
altering_small (operation.Convert Byte Big) = omega arith
altering_small (operation.Convert Big Byte) = omega arith
altering_small (operation.Convert Byte Byte) = omega arith
altering_small (operation.Convert Byte Int) = omega arith
altering_small (operation.Convert Int k) = omega arith
altering_small (operation.Convert Big Int) = omega arith
altering_small (operation.Convert Big Big) = omega arith
altering_small _ = omega arith

operating_small : (o : Operation) → operating_size o ≤ 5
operating_small (operation.Arithmetic o k) = omega arith
operating_small (operation.Shift s k) = omega arith
operating_small (operation.Compare o k) = omega arith
operating_small _ = omega arith

small : (i : Inst) → size i ≤ 5
small (Alter o into x) = altering_small o
small (Operate o into x y) = operating_small o
small (Move into x) = omega arith
small (Hand into x) = omega arith
small (Branch k c x y n) = omega arith
small (Jump n) = omega arith
small (Skip n) = omega arith
small (Back n) = omega arith
small (Begin f) = omega arith
small (Call k f n into) = omega arith
small (Format ps) = omega arith
small (Print n into) = omega arith
small (Return x) = omega arith
small Leave = omega arith

-- None of these is above 5.
abbrev AllSmall : List ℕ → Type 0
AllSmall [] = Unit {0}
AllSmall (s ∷ ss) = (s ≤ 5) × AllSmall ss

all_small : (is : List Inst) (more : List ℕ) → AllSmall more → AllSmall (map size is ++ more)
all_small [] more h = h
all_small (i ∷ is) more h = (small i, all_small is more h)

functions_small : (fs : List Function) → AllSmall (all_sizes fs)
functions_small [] = tt
functions_small (f ∷ fs) = all_small f.code (all_sizes fs) (functions_small fs)

within_small : (ss : List ℕ) (n : ℕ) → AllSmall ss → within ss n < 5
within_small [] n h = omega arith
within_small (s ∷ ss) n h = go (within_small ss (n - s) h.1) (nat_lt n s) refl
  where
    go : within ss (n - s) < 5 → (b : Bool) → nat_lt n s ≡ b → (if b then n else within ss (n - s)) < 5
    go rest true e = let a = under n s e in let b = h.0 in omega (arith, a, b)
    go rest false e = rest

last_small : (fs : List Frame) → last_rank fs < 8
last_small [] = omega arith
last_small (f ∷ fs) = omega arith

op_small : (o : Op) (fs : List Frame) (n : ℕ) → n < 5 → op_rank o fs n < 8
op_small op.Jmp fs n l = omega arith
op_small op.Ret fs n l = last_small fs
op_small _ fs n l = omega (arith, l)

rank_small : (i : Option code_inst.Inst) (fs : List Frame) (n : ℕ) → n < 5 → rank i fs n < 8
rank_small i fs zero l = omega arith
rank_small None fs (suc n) l = omega arith
rank_small (Some i) fs (suc n) l = op_small i.op fs (suc n) l

entry_small : (o : Option ℕ) → entry_length o ≤ 3
entry_small None = omega arith
entry_small (Some n) = omega arith

pub place_small : (m : Module) (r : Process) → place m r < 8
place_small m r = go (nat_lt r.frame.pc (entry_size m.functions)) refl
  where
    W : ℕ
    W = within (all_sizes m.functions) (r.frame.pc - entry_size m.functions)

    go : (b : Bool) → nat_lt r.frame.pc (entry_size m.functions) ≡ b
        → (if b then r.frame.pc else rank (slice_get (object_of m).insts r.frame.pc) r.below
        (within (all_sizes m.functions) (r.frame.pc - entry_size m.functions))) < 8
    go true e = let a = under r.frame.pc (entry_size m.functions) e in let b = entry_small (find 0 (codes "init") m.functions) in
        omega (arith, a, b)
    go false e =
        rank_small (slice_get (object_of m).insts r.frame.pc) r.below (within (all_sizes m.functions) (r.frame.pc - entry_size m.functions))
        (within_small (all_sizes m.functions) (r.frame.pc - entry_size m.functions) (functions_small m.functions))

-- ---- while more is known

module _ (m : Module) (a b : Known) (g : Grows a b) where
  rises : (s : ℕ) → s < a.frames → s < b.frames
  rises s l = let r = g.rises in omega (arith, l, r)

  abbrev up : {p : machine.Process} {r : Process} {offset : ℕ} {made : List Frame} → Running m a p r offset made
      → Running m b p r offset made
  up h = record {
    loaded = g.stays h.loaded;
    number = h.number;
    frame = h.frame;
    stack = h.stack;
    frames = h.frames;
    fresh = rises _ h.fresh;
  }

  abbrev up_making : {p : machine.Process} {r : Process} {offset : ℕ} {n : Frame} → Making m a p r offset n → Making m b p r offset n
  up_making h = record {
    running = up h.running;
    made = record { later = h.made.later; given = rises _ h.made.given; instance = h.made.instance };
    address = h.address;
  }

  abbrev up_calling : {p : machine.Process} {r : Process} {offset : ℕ} {n : Frame} → Calling m a p r offset n → Calling m b p r offset n
  up_calling h = record {
    making = up_making h.making;
    kind = h.kind;
    number = h.number;
    arguments = h.arguments;
    into = h.into;
    is = h.is;
    callee = h.callee;
    found = h.found;
    ready = h.ready;
    others = h.others;
    first = h.first;
  }

  abbrev up_printing : {p : machine.Process} {r : Process} {offset : ℕ} {n : Frame} → Printing m a p r offset n → Printing m b p r offset n
  up_printing h = record {
    making = up_making h.making;
    arguments = h.arguments;
    into = h.into;
    is = h.is;
    pieces = h.pieces;
    cs = h.cs;
    callee = h.callee;
    ready = h.ready;
    others = h.others;
    first = h.first;
    long = h.long;
    plain = h.plain;
  }

  abbrev up_entering : {p : machine.Process} {r : Process} {pc : ℕ} → Entering m a p r pc → Entering m b p r pc
  up_entering h = record {
    init = h.init;
    is_init = h.is_init;
    function = h.function;
    found = h.found;
    number = h.number;
    frame = h.frame;
    alone = h.alone;
    alone_too = h.alone_too;
    here = h.here;
    instance = h.instance;
    has = h.has;
    frames = h.frames;
    fresh = rises _ h.fresh;
  }

  grows : (p : machine.Process) (r : Process) → Ready m a p r → Ready m b p r
  grows p r (stands.enters h) = stands.enters (up_entering h)
  grows p r (stands.loads l h) = stands.loads (g.stays l) (up_entering h)
  grows p r (stands.leaves l h s) = stands.leaves (g.stays l) (up_entering h) s
  grows p r (stands.begins h) = stands.begins (up h)
  grows p r (stands.denies h d) = stands.denies (up h) d
  grows p r (stands.affirms h d) = stands.affirms (up h) d
  grows p r (stands.passes h z d t) = stands.passes (up h) z d t
  grows p r (stands.jumps_on pc at far h) = stands.jumps_on pc at far (up h)
  grows p r (stands.framed n h its) = stands.framed n (up_calling h) its
  grows p r (stands.passed n h its) = stands.passed n (up_calling h) its
  grows p r (stands.addressed n h its s) = stands.addressed n (up_calling h) its s
  grows p r (stands.prints n h blank) = stands.prints n (up_printing h) blank
  grows p r (stands.formatted n h format) = stands.formatted n (up_printing h) format
  grows p r (stands.printed n h format its) = stands.printed n (up_printing h) format its
  grows p r (stands.answering n h format its s) = stands.answering n (up_printing h) format its s
  grows p r (stands.goes_back f fs below there far instance h) = stands.goes_back f fs below there far instance (up h)
  grows p r (stands.ends h is last) = stands.ends (up h) is last

  grows_asking : (p : machine.Process) (r : Process) → Asking m a p r → Asking m b p r
  grows_asking p r h = record {
    loaded = g.stays h.loaded;
    number = h.number;
    waits = h.waits;
    int = h.int;
    stack = h.stack;
    frames = h.frames;
    fresh = rises _ h.fresh;
    writing = h.writing;
    place = h.place;
    at = h.at;
    answers = h.answers;
    printing = h.printing;
    printing_too = h.printing_too;
  }

-- ---- all of it

-- No process waits for another, and nothing belongs to one alone.
pub keeps : (m : Module) (k now : Known) (i : ℕ) (x x' : World) (d : Doing machine.Process Value) (e : Doing Process Value)
    → StandsAlike (sides m) k i x (Some d) (Some e) → Grows k now → StandsAlike (sides m) now i x' (Some d) (Some e)
keeps m k now i x x' (doing.Ready p) (doing.Ready q) h g = grows m k now g p q h
keeps m k now i x x' (doing.Asking p) (doing.Asking q) h g = grows_asking m k now g p q h
keeps m k now i x x' (doing.Waiting bs p) (doing.Waiting cs q) h g = absurd h.1
keeps m k now i x x' doing.Gone doing.Gone h g = tt
keeps m k now i x x' _ _ h g = absurd h

unfoldable pub object_follows : (m : Module) → IsProper m → Follows (sides m)
object_follows m proper = record {
  heaps = no_heap (code_and_object m) as_known
      (λ a b c g h. record { stays = λ e. h.stays (g.stays e); rises = let l = g.rises in let n = h.rises in omega (arith, l, n) });
  table = λ k i x bs cs p q h. absurd h.1;
  rooted = λ k i x d e h. tt;
  keeps = λ k now i x x' d e h g hold. keeps m k now i x x' d e h g;
  place = place m;
  bound = 8;
  some = omega arith;
  within = λ k i x p q h. place_small m q;
  each = λ k i w x p q h ws. goes m proper k i w x ws p q h;
  answers = λ k i a w x p q h ws. answers_alike m k i w x ws p q h a;
  downs = λ k l w x x' ws f. absurd cc;
  meets = λ k i j w x bs cs p q n a a' bs' cs' p' q' l b b' ne h. absurd h.1;
}
