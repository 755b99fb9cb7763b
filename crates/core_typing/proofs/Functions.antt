-- The code of functions goes well: from each place where nothing of a statement is begun, as long as one looks.
use Rattle.std.proofs.Common.{◌≡◌, ℕ, zero, suc, ◌+◌, ◌-◌, List, [], ◌∷◌, length, replicate, Option, Some, None, refl, sym, ap}
use Rattle.std.proofs.Common.{subst, ◌∙◌, arith, length-append}
use Rattle.std.specs.Prelude.{slice_get}
use Rattle.std.specs.List.{All}
use Rattle.std.proofs.lemmas.List.{length-replicate}
use Rattle.limbo_types.specs.Types as ty
use Rattle.limbo_types.specs.Types.{Ty}
use Rattle.limbo_meaning.specs.Trees.{Term, While, Loop, Block, Then, Over}
use Rattle.limbo_meaning.specs.Trees.{join, entered, behind, at_turn}
use Rattle.limbo_kept.specs.Trees.{Scope, TermIs}
use Rattle.limbo_kept.specs.Processes.{TermIfAny, TestIs, LoopIs, BlockIs, scope_of}
use Rattle.limbo_kept.proofs.Processes.{joined, entered_is, behind_is, at_turn_is}
use Rattle.core_code.specs.Code.{Instr, Unless, Jump, Back, Return}
use Rattle.core_code.specs.Terms.{lower, type_of}
use Rattle.core_code.specs.Statements.{whole, whole_if, test, function_of}
use Rattle.core_follows.specs.Drops.{HasAt}
use Rattle.core_follows.specs.Does.{LoopIn, loop_of, tested_head, tested_turn, tested_back, entered_turn, entered_test, Ready, Does, ends}
use Rattle.core_follows.specs.Does.{over, jumps, backs, evaluates, chooses, breaks, continues, returns, leaves, enters, tests, tested_turns}
use Rattle.core_follows.specs.Does.{tested_agains, entered_tests, entered_turns, entered_agains, TestedAt, EnteredAt}
use Rattle.core_follows.proofs.Holding.{has_front, has_back}
use Rattle.core_follows.proofs.Blocks.{does_at, tested_enters, entered_enters, body_does}
use Rattle.core_follows.proofs.Follows.{join_done, has_all}
use Rattle.core_typing.specs.Held.{Slots, empty, slot}
use Rattle.core_typing.specs.Needs.{IsA, Finds, IsClean, AllClean}
use Rattle.core_typing.specs.Going as going
use Rattle.core_typing.specs.Going.{Stand, stand, Agrees, Goes}
use Rattle.core_typing.specs.Trees.{HasValue, Formed, FormedIf, TestFormed, LoopFormed, BlockFormed}
use Rattle.core_typing.specs.Runs.{VariantsAreFew, Runs, RunsIf, LoopRuns, BlockRuns}
use Rattle.core_typing.specs.Functions.{AnswersAreLaid, TreesGoWell, ValuesGoWell, FunctionsGoWell}
use Rattle.core_typing.proofs.Standing.{is_on, term_stands}
use Rattle.core_typing.proofs.Loops.{joined_formed, entered_formed, behind_formed, at_turn_formed, tested_has_back, tested_has_next}
use Rattle.core_typing.proofs.Loops.{tested_has_condition, tested_has_test, tested_has_rest, entered_has_back, entered_has_next}
use Rattle.core_typing.proofs.Loops.{joined_runs, entered_runs, behind_runs, at_turn_runs}
use Rattle.core_typing.proofs.Loops.{entered_has_test, entered_has_rest}

-- ---- one instruction

module _ (s : Scope) (answer : Ty) (code : List Instr) where
  -- An instruction is there and finds what it needs, and behind it all goes well with less.
  goes_by : (n pc : ℕ) (slots : Slots) (i : Instr) → slice_get code pc ≡ Some i → Finds s answer slots i
      → Agrees s answer code pc slots i
      → ((m : ℕ) → n ≡ suc m → All (λ (a : Stand). Goes s answer code m a.pc a.slots) (going.behind s.adts pc slots i))
      → Goes s answer code n pc slots
  goes_by zero pc slots i e f a k = tt
  goes_by (suc m) pc slots i e f a k = (i, e, f, a, k m refl)

  abbrev AllGo : ℕ → List Stand → Type 0
  AllGo m places = All (λ (a : Stand). Goes s answer code m a.pc a.slots) places

  none_go : (m : ℕ) → AllGo m []
  none_go m k d l = absurd (omega arith)

  one_goes : (m pc : ℕ) (slots : Slots) → Goes s answer code m pc slots → AllGo m (stand pc slots ∷ [])
  one_goes m pc slots g zero d l = g
  one_goes m pc slots g (suc k) d l = absurd (omega arith)

  two_go : (m pc pc' : ℕ) (slots : Slots) → Goes s answer code m pc slots → Goes s answer code m pc' slots
      → AllGo m (stand pc slots ∷ stand pc' slots ∷ [])
  two_go m pc pc' slots g h zero d l = g
  two_go m pc pc' slots g h (suc zero) d l = h
  two_go m pc pc' slots g h (suc (suc k)) d l = absurd (omega arith)

module _ (trees : TreesGoWell) (values : ValuesGoWell) (s : Scope) (answers : AnswersAreLaid s) (few : VariantsAreFew s.adts) (answer : Ty)
    (code : List Instr) (size : ℕ) where
  abbrev D : ℕ → Block → Type 0
  D pc b = Does s.adts code size pc b

  -- A block that is typed and formed.
  abbrev Good : Block → Type 0
  Good b = BlockIs s [] answer None b × BlockFormed s b × BlockRuns s.adts b

  abbrev GoodLoop : Loop → Type 0
  GoodLoop l = LoopIs s [] answer l × LoopFormed s l × LoopRuns s.adts l

  abbrev G : ℕ → (pc : ℕ) → Slots → Type 0
  G n pc slots = Goes s answer code n pc slots

  abbrev Well : ℕ → Type 0
  Well n = (pc : ℕ) (b : Block) → D pc b → Good b → (slots : Slots) → length slots ≡ size → AllClean slots → G n pc slots

  good_entered : (l : Loop) (rest : Block) → GoodLoop l → Good rest → Good (entered l rest)
  good_entered l rest h g = (entered_is s [] answer l rest h.0 g.0, entered_formed s l rest h.1 g.1, entered_runs s.adts l rest h.2 g.2)

  -- the condition of a loop, and what is done between two turns
  abbrev GoodTest : Term → Type 0
  GoodTest t = TermIs s [] None t ty.Int × HasValue t × Formed s t × Runs s.adts t

  good_condition : (l : LoopIn) (c : Term) → l.condition ≡ Some c → GoodLoop (loop_of l) → GoodTest c
  good_condition l c e h = (
    subst (TestIs s [] answer) e h.0.0,
    (subst (TestFormed s) e h.1.0).0,
    (subst (TestFormed s) e h.1.0).1,
    subst (RunsIf s.adts) e h.2.0,
  )

  good_next : (l : LoopIn) (t : Term) → l.next ≡ Some t → GoodLoop (loop_of l)
      → (u : Ty) × TermIs s [] None t u × Formed s t × Runs s.adts t
  good_next l t e h =
      let a = subst (TermIfAny s [] answer) e h.0.1 in
      (a.0, a.1, subst (FormedIf s) e h.1.1, subst (RunsIf s.adts) e h.2.1)

  good_while : (l : LoopIn) (c : Term) (rest : Block) → l.condition ≡ Some c → GoodLoop (loop_of l) → Good rest
      → Good (Then (While c (loop_of l)) rest)
  good_while l c rest e h g =
      let t = good_condition l c e h in
      (((t.0, h.0), g.0), ((t.1, t.2, h.1), g.1), ((t.3, h.2), g.2))

  module _ (n : ℕ) (less : (m : ℕ) → n ≡ suc m → Well m) where
    jump_well : (pc k : ℕ) (b : Block) → slice_get code pc ≡ Some (Jump k) → D (suc pc + k) b → Good b → (slots : Slots)
        → length slots ≡ size → AllClean slots
        → G n pc slots
    jump_well pc k b e d g slots long clean =
        goes_by s answer code n pc slots (Jump k) e tt tt
        (λ m q. one_goes s answer code m (suc pc + k) slots (less m q (suc pc + k) b d g slots long clean))

    back_well : (pc to k : ℕ) (b : Block) → slice_get code pc ≡ Some (Back k) → to + k ≡ pc → D to b → Good b → (slots : Slots)
        → length slots ≡ size → AllClean slots → G n pc slots
    back_well pc to k b e z d g slots long clean =
        goes_by s answer code n pc slots (Back k) e tt tt
        (λ m q. one_goes s answer code m (pc - k) slots
        (less m q (pc - k) b (does_at s.adts code size to (pc - k) b (omega arith) d) g slots long clean))

    none_well : (pc : ℕ) → slice_get code pc ≡ Some (Return None) → (slots : Slots) → G n pc slots
    none_well pc e slots = goes_by s answer code n pc slots (Return None) e tt tt (λ m q. none_go s answer code m)

    -- An expression with its drops.
    expression_well : (t : Term) (u : Ty) → TermIs s [] None t u → Ready s.adts code size t → Formed s t → Runs s.adts t → (pc : ℕ)
        → HasAt code pc (whole s.adts t) → (slots : Slots) → length slots ≡ size → AllClean slots
        → ((after : Slots) → length after ≡ size → IsA after (lower s.adts 0 t).value (type_of s.adts t) → AllClean after
        → G n (pc + length (whole s.adts t)) after)
        → G n pc slots
    expression_well t u is r f q pc has slots long clean k =
        trees s answers few answer code t u is r.0 f q pc slots has (let l = r.1 in omega arith) clean n
        (λ after e a c. k after (e ∙ long) a c)

    -- A test, and both ways on.
    test_well : (t : Term) → GoodTest t → Ready s.adts code size t → (pc k : ℕ) → HasAt code pc (test s.adts (Some t) k)
        → (hit miss : Block) → D (pc + length (test s.adts (Some t) k)) hit → D (pc + length (test s.adts (Some t) k) + k) miss
        → Good hit → Good miss → (slots : Slots) → length slots ≡ size → AllClean slots → G n pc slots
    test_well t h r pc k has hit miss dh dm gh gm slots long clean =
        let w = whole s.adts t in
        let x = (lower s.adts 0 t).value in
        let e = length-append w (Unless x k ∷ []) in
        let end : ℕ = pc + length (test s.adts (Some t) k) in
        let at : ℕ = pc + length w in
        expression_well t ty.Int h.0 r h.2 h.3 pc (has_front code pc w (Unless x k ∷ []) has) slots long clean
        (λ after l a c. goes_by s answer code n at after (Unless x k) (has_back code pc w (Unless x k ∷ []) has).0
        (is_on after x (type_of s.adts t) ty.Int a (term_stands s t ty.Int h.0 r.0 h.1 h.2)) tt
        (λ m q. two_go s answer code m (suc at + k) (suc at) after
        (less m q (suc at + k) miss (does_at s.adts code size (end + k) (suc at + k) miss (omega arith) dm) gm after l c)
        (less m q (suc at) hit (does_at s.adts code size end (suc at) hit (omega arith) dh) gh after l c)))

    -- ---- loops that begin with their test

    tests_well : (start : ℕ) (l : LoopIn) (c : Term) (rest : Block) → l.condition ≡ Some c → TestedAt s.adts code size start l rest
        → GoodLoop (loop_of l) → GoodTest c → Good rest → (slots : Slots) → length slots ≡ size → AllClean slots → G n start slots
    tests_well start l c rest ec at h t g slots long clean =
        let b = tested_has_test s.adts code size start l rest c ec at in
        test_well c t b.1 start b.0 b.2 (entered (loop_of l) rest) rest
        (does_at s.adts code size (start + length (tested_head s.adts l)) (start + length (test s.adts (Some c) b.0))
        (entered (loop_of l) rest) (sym b.3)
        (tested_enters s.adts code size start l rest at))
        (does_at s.adts code size (suc (tested_back s.adts start l)) (start + length (test s.adts (Some c) b.0) + b.0) rest (sym b.4)
        (tested_has_rest s.adts code size start l rest at))
        (good_entered (loop_of l) rest h g) g slots long clean

    tested_back_well : (start : ℕ) (l : LoopIn) (rest : Block) → TestedAt s.adts code size start l rest
        → GoodLoop (loop_of l) → Good rest → (slots : Slots) → length slots ≡ size → AllClean slots → G n (tested_back s.adts start l) slots
    tested_back_well start l rest at h g slots long clean =
        let b = tested_has_back s.adts code size start l rest at in
        let c = tested_has_condition s.adts code size start l rest at in
        back_well (tested_back s.adts start l) start b.0 (Then (While c.0 (loop_of l)) rest) b.1 b.2 (tests start l c.0 c.1 at)
        (good_while l c.0 rest c.1 h g) slots long clean

    tested_turn_well : (start : ℕ) (l : LoopIn) (rest : Block) (o : Option Term) → l.next ≡ o → TestedAt s.adts code size start l rest
        → GoodLoop (loop_of l) → Good rest → (slots : Slots) → length slots ≡ size → AllClean slots → G n (tested_turn s.adts start l) slots
    tested_turn_well start l rest None en at h g slots long clean =
        let z : length (whole_if s.adts l.next) ≡ 0 = ap (λ (o : Option Term). length (whole_if s.adts o)) en in
        let same : tested_back s.adts start l ≡ tested_turn s.adts start l = omega arith in
        subst (λ (q : ℕ). G n q slots) same (tested_back_well start l rest at h g slots long clean)
    tested_turn_well start l rest (Some t) en at h g slots long clean =
        let b = tested_has_next s.adts code size start l rest t en at in
        let x = good_next l t en h in
        expression_well t x.0 x.1 b.1 x.2 x.3 (tested_turn s.adts start l) b.0 slots long clean
        (λ after e a c. subst (λ (q : ℕ). G n q after) (sym b.2) (tested_back_well start l rest at h g after e c))

    -- ---- loops that begin with their body

    entered_test_well : (start : ℕ) (l : LoopIn) (rest : Block) (o : Option Term) → l.condition ≡ o
        → EnteredAt s.adts code size start l rest
        → GoodLoop (loop_of l) → Good rest → (slots : Slots) → length slots ≡ size → AllClean slots
        → G n (entered_test s.adts start l) slots
    entered_test_well start l rest None ec at h g slots long clean =
        let b = entered_has_back s.adts code size start l rest at in
        let place : ℕ = entered_test s.adts start l in
        let z : length (test s.adts l.condition 1) ≡ 0 = ap (λ (o : Option Term). length (test s.adts o 1)) ec in
        let same : place + length (test s.adts l.condition 1) ≡ place = omega arith in
        subst (λ (q : ℕ). G n q slots) same
        (back_well (place + length (test s.adts l.condition 1)) start b.0 (entered (loop_of l) rest) b.1 b.2
        (entered_enters s.adts code size start l rest at) (good_entered (loop_of l) rest h g) slots long clean)
    entered_test_well start l rest (Some c) ec at h g slots long clean =
        let b = entered_has_back s.adts code size start l rest at in
        let x = entered_has_test s.adts code size start l rest c ec at in
        let place : ℕ = entered_test s.adts start l in
        let same = x.2 in
        let at_back : place + length (test s.adts l.condition 1) ≡ place + length (test s.adts (Some c) 1) = omega arith in
        test_well c (good_condition l c ec h) x.0 place 1 x.1 (Then Over (entered (loop_of l) rest)) rest
        (backs b.0 (subst (λ (q : ℕ). slice_get code q ≡ Some (Back b.0)) at_back b.1)
        (does_at s.adts code size start (place + length (test s.adts (Some c) 1) - b.0) (entered (loop_of l) rest)
        (let y = b.2 in omega arith) (entered_enters s.adts code size start l rest at)))
        (does_at s.adts code size (suc (place + length (test s.adts l.condition 1))) (place + length (test s.adts (Some c) 1) + 1) rest
        (omega arith) (entered_has_rest s.adts code size start l rest at))
        (let e = good_entered (loop_of l) rest h g in ((tt, e.0), (tt, e.1), (tt, e.2))) g slots long clean

    entered_turn_well : (start : ℕ) (l : LoopIn) (rest : Block) (o : Option Term) → l.next ≡ o → EnteredAt s.adts code size start l rest
        → GoodLoop (loop_of l) → Good rest → (slots : Slots) → length slots ≡ size → AllClean slots
        → G n (entered_turn s.adts start l) slots
    entered_turn_well start l rest None en at h g slots long clean =
        let z : length (whole_if s.adts l.next) ≡ 0 = ap (λ (o : Option Term). length (whole_if s.adts o)) en in
        let same : entered_test s.adts start l ≡ entered_turn s.adts start l = omega arith in
        subst (λ (q : ℕ). G n q slots) same (entered_test_well start l rest l.condition refl at h g slots long clean)
    entered_turn_well start l rest (Some t) en at h g slots long clean =
        let b = entered_has_next s.adts code size start l rest t en at in
        let x = good_next l t en h in
        expression_well t x.0 x.1 b.1 x.2 x.3 (entered_turn s.adts start l) b.0 slots long clean
        (λ after e a c. subst (λ (q : ℕ). G n q after) (sym b.2) (entered_test_well start l rest l.condition refl at h g after e c))

    -- ---- all places

    place_well : Well n
    place_well pc todo (ends i) g slots long clean = none_well pc i slots
    place_well pc todo (over {rest = rest} d) g slots long clean = place_well pc rest d (g.0.1, g.1.1, g.2.1) slots long clean
    place_well pc todo (jumps {rest = rest} k i d) g slots long clean = jump_well pc k rest i d (g.0.1, g.1.1, g.2.1) slots long clean
    place_well pc todo (backs {rest = rest} k i d) g slots long clean =
        goes_by s answer code n pc slots (Back k) i tt tt
        (λ m q. one_goes s answer code m (pc - k) slots (less m q (pc - k) rest d (g.0.1, g.1.1, g.2.1) slots long clean))
    place_well pc todo (evaluates {t = t} {rest = rest} r has d) g slots long clean =
        expression_well t g.0.0.0 g.0.0.1 r g.1.0 g.2.0 pc has slots long clean
        (λ after e a c. place_well (pc + length (whole s.adts t)) rest d (g.0.1, g.1.1, g.2.1) after e c)
    place_well pc todo (chooses {t = t} {a = a} {b = b} {rest = rest} k r has d f) g slots long clean =
        let over_rest : Good (Then Over rest) = ((tt, g.0.1), (tt, g.1.1), (tt, g.2.1)) in
        test_well t (g.0.0.0, g.1.0.0, g.1.0.1, g.2.0.0) r pc k has (join a (Then Over rest)) (join b (Then Over rest)) d f (
          joined s [] answer a (Then Over rest) g.0.0.1 over_rest.0,
          joined_formed s a (Then Over rest) g.1.0.2 over_rest.1,
          joined_runs s.adts a (Then Over rest) g.2.0.1 over_rest.2,
        ) (
          joined s [] answer b (Then Over rest) g.0.0.2 over_rest.0,
          joined_formed s b (Then Over rest) g.1.0.3 over_rest.1,
          joined_runs s.adts b (Then Over rest) g.2.0.2 over_rest.2,
        ) slots long clean
    place_well pc todo (breaks {n = j} {rest = rest} k i d) g slots long clean =
        jump_well pc k (behind j rest) i d
        (behind_is s [] answer j rest g.0.1, behind_formed s j rest g.1.1, behind_runs s.adts j rest g.2.1) slots long clean
    place_well pc todo (continues {n = j} {rest = rest} k i d) g slots long clean =
        jump_well pc k (at_turn j rest) i d
        (at_turn_is s [] answer j rest g.0.1, at_turn_formed s j rest g.1.1, at_turn_runs s.adts j rest g.2.1) slots long clean
    place_well pc todo (returns {t = t} {rest = rest} r has) g slots long clean =
        let x = lower s.adts 0 t in
        let last = Return (Some x.value) ∷ [] in
        values s answers few answer code t answer g.0.0 r.0 g.1.0.1 g.2.0 pc slots (has_front code pc x.code last has)
        (let l = r.1 in omega arith)
        clean n
        (λ after e a. goes_by s answer code n (pc + length x.code) after (Return (Some x.value)) (has_back code pc x.code last has).0
        (is_on after x.value (type_of s.adts t) answer a (term_stands s t answer g.0.0 r.0 g.1.0.0 g.1.0.1)) tt
        (λ m q. none_go s answer code m))
    place_well pc todo (leaves i) g slots long clean = none_well pc i slots
    place_well pc todo (enters {l = l} {rest = rest} d) g slots long clean =
        place_well pc (entered l rest) d (good_entered l rest (g.0.0, g.1.0, g.2.0) (g.0.1, g.1.1, g.2.1)) slots long clean
    place_well pc todo (tests {rest = rest} start l c ec at) g slots long clean =
        tests_well start l c rest ec at (g.0.0.1, g.1.0.2, g.2.0.1) (g.0.0.0, g.1.0.0, g.1.0.1, g.2.0.0) (g.0.1, g.1.1, g.2.1) slots long
        clean
    place_well pc todo (tested_turns {rest = rest} start l at) g slots long clean =
        tested_turn_well start l rest l.next refl at (g.0.0, g.1.0, g.2.0) (g.0.1, g.1.1, g.2.1) slots long clean
    place_well pc todo (tested_agains {rest = rest} start l at) g slots long clean =
        tested_back_well start l rest at (g.0.0, g.1.0, g.2.0) (g.0.1, g.1.1, g.2.1) slots long clean
    place_well pc todo (entered_tests {rest = rest} start l c ec at) g slots long clean =
        entered_test_well start l rest (Some c) ec at (g.0.0.1, g.1.0.2, g.2.0.1) (g.0.1, g.1.1, g.2.1) slots long clean
    place_well pc todo (entered_turns {rest = rest} start l at) g slots long clean =
        entered_turn_well start l rest l.next refl at (g.0.0, g.1.0, g.2.0) (g.0.1, g.1.1, g.2.1) slots long clean
    place_well pc todo (entered_agains {rest = rest} start l at) g slots long clean =
        entered_test_well start l rest l.condition refl at (g.0.0, g.1.0, g.2.0) (g.0.1, g.1.1, g.2.1) slots long clean

  all_well : (n : ℕ) → Well n
  all_well zero = place_well zero (λ m q. absurd cc)
  all_well (suc n) = place_well (suc n) (λ m q. let e : n ≡ m = cc in subst Well e (all_well n))

-- empty slots name nothing
all_empty : (n r : ℕ) → IsClean (slot (replicate n empty) r)
all_empty zero r = refl
all_empty (suc n) zero = refl
all_empty (suc n) (suc r) = all_empty n r

pub functions_go_well : TreesGoWell → ValuesGoWell → FunctionsGoWell
functions_go_well trees values o g r is h f runs answers few n =
    let s = scope_of o r.variables in
    let fun = function_of o.adts r in
    all_well trees values s answers few g.answer fun.code fun.slots n 0 r.body
    (subst (Does o.adts fun.code fun.slots 0) (join_done o.adts 0 r.body h)
    (body_does o.adts fun.code fun.slots r.body h (omega arith) (has_all [] fun.code)))
    (is.body, f, runs) (replicate fun.slots empty) (length-replicate fun.slots empty) (all_empty fun.slots)
