-- How far a process is.
use Rattle.std.proofs.Common.{◌≡◌, ℕ, zero, suc, ◌+◌, ◌-◌, ◌<◌, ◌≤◌, true, false, List, [], ◌∷◌, ◌++◌, map, Some, sym, ap, ◌∙◌, subst}
use Rattle.std.proofs.Common.{arith, rules, tests, if◌then◌else◌}
use Rattle.std.specs.Prelude.{slice_get, nat_lt, take}
use Rattle.slot_code.specs.Code.{Inst, Function, Module}
use Rattle.dis_meaning.specs.Process.{Process}
use Rattle.dis_objects.specs.Code.{size, sizes, start, place}
use Rattle.dis_objects.specs.Objects.{size_before, entry_size, context, object_of}
use Rattle.dis_follows.specs.Paces as paces
use Rattle.dis_follows.specs.Paces.{all_sizes, within, rank}

pub less : (a b : ℕ) → a < b → nat_lt a b ≡ true
less a b h = search (rules, tests, h)

pub not_less : (a b : ℕ) → b ≤ a → nat_lt a b ≡ false
not_less a b h = search (rules, tests, h)

-- Behind a whole piece.
skip : (s : ℕ) (ss : List ℕ) (n n' : ℕ) → n ≡ s + n' → within (s ∷ ss) n ≡ within ss n'
skip s ss n n' e =
    ap (λ b. if b then n else within ss (n - s)) (not_less n s (omega (arith, e))) ∙ ap (within ss) (omega (arith, e))

within_at : (is : List Inst) (more : List ℕ) (pc : ℕ) (i : Inst) (offset : ℕ) → slice_get is pc ≡ Some i → offset < size i
    → within (map size is ++ more) (sizes (take pc is) + offset) ≡ offset
within_at [] more pc i offset e lt = absurd cc
within_at (i' ∷ is) more zero i offset e lt =
    let same : i' ≡ i = cc in
    let l : 0 + offset < size i' = subst (λ i. 0 + offset < size i) (sym same) (omega (arith, lt)) in
    ap (λ b. if b then 0 + offset else within (map size is ++ more) (0 + offset - size i')) (less (0 + offset) (size i') l) ∙ omega arith
within_at (i' ∷ is) more (suc pc) i offset e lt =
    skip (size i') (map size is ++ more) _ (sizes (take pc is) + offset) (omega arith) ∙ within_at is more pc i offset e lt

within_behind : (is : List Inst) (more : List ℕ) (n : ℕ) → within (map size is ++ more) (sizes is + n) ≡ within more n
within_behind [] more n = ap (within more) (omega arith)
within_behind (i ∷ is) more n = skip (size i) (map size is ++ more) _ (sizes is + n) (omega arith) ∙ within_behind is more n

within_all : (fs : List Function) (n : ℕ) (f : Function) (pc : ℕ) (i : Inst) (offset : ℕ) → slice_get fs n ≡ Some f
    → slice_get f.code pc ≡ Some i → offset < size i → within (all_sizes fs) (size_before fs n + (start f.code pc + offset)) ≡ offset
within_all [] n f pc i offset e h lt = absurd cc
within_all (g ∷ fs) zero f pc i offset e h lt =
    let same : g ≡ f = cc in
    ap (within (all_sizes (g ∷ fs))) (let z : 0 + (start f.code pc + offset) ≡ start f.code pc + offset = omega arith in z)
    ∙ subst (λ f'. within (map size f'.code ++ all_sizes fs) (start f.code pc + offset) ≡ offset) (sym same)
    (within_at f.code (all_sizes fs) pc i offset h lt)
within_all (g ∷ fs) (suc n) f pc i offset e h lt =
    ap (within (all_sizes (g ∷ fs)))
    (let z : sizes g.code + size_before fs n + (start f.code pc + offset) ≡ sizes g.code + (size_before fs n + (start f.code pc + offset)) =
    omega arith in z)
    ∙ within_behind g.code (all_sizes fs) (size_before fs n + (start f.code pc + offset)) ∙ within_all fs n f pc i offset e h lt

-- In the code of an instruction.
pub place_is : (m : Module) (r : Process) (n : ℕ) (f : Function) (pc : ℕ) (i : Inst) (offset : ℕ) → slice_get m.functions n ≡ Some f
    → slice_get f.code pc ≡ Some i → offset < size i → r.frame.pc ≡ offset + place (context m n f) pc
    → paces.place m r ≡ rank (slice_get (object_of m).insts r.frame.pc) r.below offset
place_is m r n f pc i offset e h lt is =
    let inner : r.frame.pc - entry_size m.functions ≡ size_before m.functions n + (start f.code pc + offset) = omega (arith, is) in
    ap (λ b. if b then r.frame.pc else rank (slice_get (object_of m).insts r.frame.pc) r.below
    (within (all_sizes m.functions) (r.frame.pc - entry_size m.functions)))
    (not_less r.frame.pc (entry_size m.functions) (omega (arith, is)))
    ∙ ap (λ z. rank (slice_get (object_of m).insts r.frame.pc) r.below (within (all_sizes m.functions) z)) inner
    ∙ ap (rank (slice_get (object_of m).insts r.frame.pc) r.below) (within_all m.functions n f pc i offset e h lt)

-- In the entry.
pub entry_place : (m : Module) (r : Process) → r.frame.pc < entry_size m.functions → paces.place m r ≡ r.frame.pc
entry_place m r l =
    ap (λ b. if b then r.frame.pc else rank (slice_get (object_of m).insts r.frame.pc) r.below
    (within (all_sizes m.functions) (r.frame.pc - entry_size m.functions))) (less r.frame.pc (entry_size m.functions) l)
