-- The code of statements, functions and programs.
use Rattle.std.specs.Prelude.{ℕ, zero, suc, ◌+◌, List, [], ◌∷◌, ◌++◌, length, map, max, Option, Some, None}
use Rattle.limbo_layout.specs.Adts.{Def}
use Rattle.limbo_meaning.specs.Trees as tree
use Rattle.limbo_meaning.specs.Trees.{Term, Stm, Over, Eval, If, While, Enter, Break, Continue, Loop, Looping, Block, Done, Then, Turn}
use Rattle.limbo_meaning.specs.Trees.{Again}
use Rattle.limbo_meaning.specs.Program as source
use Rattle.core_code.specs.Code.{Instr, Unless, Jump, Back, Return, Function, Program}
use Rattle.core_code.specs.Terms.{lower}

-- How far it is from the end of a block to where a loop around is left, and to its next turn.
pub record Around : Type 0 where
  pub leaves : ℕ
  pub turns : ℕ

abbrev pub further : ℕ → List Around → List Around
further n [] = []
further n (a ∷ around) = record { leaves = n + a.leaves; turns = n + a.turns } ∷ further n around

abbrev pub leaves_at : ℕ → List Around → ℕ
leaves_at n [] = 0
leaves_at zero (a ∷ around) = a.leaves
leaves_at (suc n) (a ∷ around) = leaves_at n around

abbrev pub turns_at : ℕ → List Around → ℕ
turns_at n [] = 0
turns_at zero (a ∷ around) = a.turns
turns_at (suc n) (a ∷ around) = turns_at n around

abbrev pub in_loop : (behind : ℕ) → (rest : ℕ) → List Around → List Around
in_loop behind rest around = record { leaves = behind; turns = 0 } ∷ further (behind + rest) around

module _ (defs : List Def) where
  abbrev pub whole : Term → List Instr
  whole t = let l = lower defs 0 t in l.code ++ l.drops

  abbrev pub whole_if : Option Term → List Instr
  whole_if None = []
  whole_if (Some t) = whole t

  abbrev pub test : Option Term → (passes : ℕ) → List Instr
  test None n = []
  test (Some t) n = whole t ++ Unless (lower defs 0 t).value n ∷ []

  -- A loop whose test stands in front of its body, and one whose body begins at once.
  abbrev pub loop_tested : Option Term → (body next : List Instr) → List Instr
  loop_tested c body next =
      let turn = body ++ next in
      let head = test c (suc (length turn)) in
      head ++ (turn ++ Back (length head + length turn) ∷ [])

  abbrev pub loop_entered : Option Term → (body next : List Instr) → List Instr
  loop_entered c body next =
      let turn = body ++ next in
      let head = test c 1 in
      turn ++ (head ++ Back (length turn + length head) ∷ [])

  abbrev mutual
    -- A statement in front of so many instructions of its block.
    pub stm_code : List Around → (rest : ℕ) → Stm → List Instr
    stm_code around rest Over = []
    stm_code around rest (Eval t) = whole t
    stm_code around rest (If t a b) =
        let other = block_code (further rest around) b in
        let first = block_code (further (suc (length other) + rest) around) a in
        whole t ++ Unless (lower defs 0 t).value (suc (length first)) ∷ first ++ Jump (length other) ∷ other
    stm_code around rest (While t l) = loop_code_tested around rest l
    stm_code around rest (Enter l) = loop_code_entered around rest l
    stm_code around rest (Break n) = Jump (rest + leaves_at n around) ∷ []
    stm_code around rest (Continue n) = Jump (rest + turns_at n around) ∷ []
    stm_code around rest (tree.Return t) = (lower defs 0 t).code ++ Return (Some (lower defs 0 t).value) ∷ []
    stm_code around rest tree.Leave = Return None ∷ []

    -- behind the body: what is done between two turns, and the way back, with the test in front of it where the body began
    pub loop_code_tested : List Around → (rest : ℕ) → Loop → List Instr
    loop_code_tested around rest (Looping c n body) =
        let next = whole_if n in loop_tested c (block_code (in_loop (suc (length next)) rest around) body) next

    pub loop_code_entered : List Around → (rest : ℕ) → Loop → List Instr
    loop_code_entered around rest (Looping c n body) =
        let next = whole_if n in
        loop_entered c (block_code (in_loop (length next + suc (length (test c 1))) rest around) body) next

    pub block_code : List Around → Block → List Instr
    block_code around Done = []
    block_code around (Then s b) = let rest = block_code around b in stm_code around (length rest) s ++ rest
    block_code around (Turn l b) = block_code around b
    block_code around (Again l b) = block_code around b

  -- ---- how many slots a function has

  abbrev pub free_after : Option Term → ℕ
  free_after None = 0
  free_after (Some t) = (lower defs 0 t).free

  abbrev mutual
    pub stm_slots : Stm → ℕ
    stm_slots (Eval t) = (lower defs 0 t).free
    stm_slots (If t a b) = max (lower defs 0 t).free (max (block_slots a) (block_slots b))
    stm_slots (While t l) = loop_slots l
    stm_slots (Enter l) = loop_slots l
    stm_slots (tree.Return t) = (lower defs 0 t).free
    stm_slots s = 0

    pub loop_slots : Loop → ℕ
    loop_slots (Looping c n body) = max (max (free_after c) (free_after n)) (block_slots body)

    pub block_slots : Block → ℕ
    block_slots Done = 0
    block_slots (Then s b) = max (stm_slots s) (block_slots b)
    block_slots (Turn l b) = block_slots b
    block_slots (Again l b) = block_slots b

  abbrev pub function_of : source.Routine → Function
  function_of r = record { variables = r.variables; slots = max 1 (block_slots r.body); code = block_code [] r.body ++ Return None ∷ [] }

abbrev pub code_of : source.Program → Program
code_of p = record { adts = p.adts; functions = map (function_of p.adts) p.routines }
