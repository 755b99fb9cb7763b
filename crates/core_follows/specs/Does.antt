-- What the code does from a place on where nothing of a statement is begun.
use Rattle.std.specs.Prelude.{◌≡◌, ℕ, suc, ◌+◌, ◌-◌, ◌<◌, ◌≤◌, List, [], ◌∷◌, ◌++◌, length, Option, Some, None, slice_get}
use Rattle.limbo_layout.specs.Adts.{Def}
use Rattle.limbo_meaning.specs.Trees as tree
use Rattle.limbo_meaning.specs.Trees.{Term, Over, Eval, If, While, Enter, Break, Continue, Leave, Loop, Looping, Block, Done, Then}
use Rattle.limbo_meaning.specs.Trees.{Turn, Again}
use Rattle.limbo_meaning.specs.Trees.{join, entered, behind, at_turn}
use Rattle.core_code.specs.Code.{Instr, Jump, Back, Return}
use Rattle.core_code.specs.Terms.{lower}
use Rattle.core_code.specs.Statements.{Around, leaves_at, turns_at, in_loop, whole, whole_if, test, loop_tested, loop_entered}
use Rattle.core_code.specs.Statements.{block_code, free_after, block_slots}
use Rattle.core_follows.specs.Drops.{HasAt}
use Rattle.core_follows.specs.Handled.{Handled, HandledLoop}

-- A loop: whether its code begins with the test, what stands around it, how many instructions of its block stand behind it, and the loop.
pub record LoopIn : Type 0 where
  pub around : List Around
  pub rest : ℕ
  pub condition : Option Term
  pub next : Option Term
  pub body : Block

abbrev pub loop_of : LoopIn → Loop
loop_of l = Looping l.condition l.next l.body

module _ (defs : List Def) where
  -- Where its parts stand: of one that begins with its test, and of one that begins with its body.
  abbrev pub tested_body : LoopIn → List Instr
  tested_body l = block_code defs (in_loop (suc (length (whole_if defs l.next))) l.rest l.around) l.body

  abbrev pub tested_head : LoopIn → List Instr
  tested_head l = test defs l.condition (suc (length (tested_body l ++ whole_if defs l.next)))

  abbrev pub entered_body : LoopIn → List Instr
  entered_body l = block_code defs (in_loop (length (whole_if defs l.next) + suc (length (test defs l.condition 1))) l.rest l.around) l.body

  abbrev pub tested_turn : (start : ℕ) → LoopIn → ℕ
  tested_turn start l = start + length (tested_head l) + length (tested_body l)

  abbrev pub tested_back : (start : ℕ) → LoopIn → ℕ
  tested_back start l = tested_turn start l + length (whole_if defs l.next)

  abbrev pub entered_turn : (start : ℕ) → LoopIn → ℕ
  entered_turn start l = start + length (entered_body l)

  abbrev pub entered_test : (start : ℕ) → LoopIn → ℕ
  entered_test start l = entered_turn start l + length (whole_if defs l.next)

  module _ (codes : List Instr) (size : ℕ) where
    -- A tree of which nothing is evaluated, with slots that are there.
    abbrev pub Ready : Term → Type 0
    Ready t = Handled defs t × ((lower defs 0 t).free ≤ size)

    mutual
      pub data Does : (pc : ℕ) → Block → Type 0 where
        ends : {pc : ℕ} → slice_get codes pc ≡ Some (Return None) → Does pc Done
        over : {pc : ℕ} {rest : Block} → Does pc rest → Does pc (Then Over rest)
        jumps : {pc : ℕ} {rest : Block} (n : ℕ) → slice_get codes pc ≡ Some (Jump n) → Does (suc pc + n) rest → Does pc (Then Over rest)
        backs : {pc : ℕ} {rest : Block} (n : ℕ) → slice_get codes pc ≡ Some (Back n) → Does (pc - n) rest → Does pc (Then Over rest)
        evaluates : {pc : ℕ} {t : Term} {rest : Block} → Ready t → HasAt codes pc (whole defs t) → Does (pc + length (whole defs t)) rest
            → Does pc (Then (Eval t) rest)
        chooses : {pc : ℕ} {t : Term} {a b rest : Block} (n : ℕ) → Ready t → HasAt codes pc (test defs (Some t) n)
            → Does (pc + length (test defs (Some t) n)) (join a (Then Over rest))
            → Does (pc + length (test defs (Some t) n) + n) (join b (Then Over rest)) → Does pc (Then (If t a b) rest)
        breaks : {pc n : ℕ} {rest : Block} (k : ℕ) → slice_get codes pc ≡ Some (Jump k) → Does (suc pc + k) (behind n rest)
            → Does pc (Then (Break n) rest)
        continues : {pc n : ℕ} {rest : Block} (k : ℕ) → slice_get codes pc ≡ Some (Jump k) → Does (suc pc + k) (at_turn n rest)
            → Does pc (Then (Continue n) rest)
        returns : {pc : ℕ} {t : Term} {rest : Block} → Ready t
            → HasAt codes pc ((lower defs 0 t).code ++ Return (Some (lower defs 0 t).value) ∷ []) → Does pc (Then (tree.Return t) rest)
        leaves : {pc : ℕ} {rest : Block} → slice_get codes pc ≡ Some (Return None) → Does pc (Then Leave rest)
        enters : {pc : ℕ} {l : Loop} {rest : Block} → Does pc (entered l rest) → Does pc (Then (Enter l) rest)
        -- in a loop whose test stands first, and in one whose body does
        tests : {rest : Block} (start : ℕ) (l : LoopIn) (c : Term) → l.condition ≡ Some c → TestedAt start l rest
            → Does start (Then (While c (loop_of l)) rest)
        tested_turns : {rest : Block} (start : ℕ) (l : LoopIn) → TestedAt start l rest → Does (tested_turn start l) (Turn (loop_of l) rest)
        tested_agains : {rest : Block} (start : ℕ) (l : LoopIn) → TestedAt start l rest → Does (tested_back start l)
            (Again (loop_of l) rest)
        entered_tests : {rest : Block} (start : ℕ) (l : LoopIn) (c : Term) → l.condition ≡ Some c → EnteredAt start l rest
            → Does (entered_test start l) (Then (While c (loop_of l)) rest)
        entered_turns : {rest : Block} (start : ℕ) (l : LoopIn) → EnteredAt start l rest → Does (entered_turn start l)
            (Turn (loop_of l) rest)
        entered_agains : {rest : Block} (start : ℕ) (l : LoopIn) → EnteredAt start l rest
            → Does (entered_test start l) (Again (loop_of l) rest)

      -- The code of a whole loop stands there, and what follows it.
      pub data TestedAt : (start : ℕ) → LoopIn → Block → Type 0 where
        tested_at : {start : ℕ} {l : LoopIn} {rest : Block} (c : Term) → l.condition ≡ Some c → HandledLoop defs (length l.around)
            (loop_of l)
            → free_after defs l.condition ≤ size → free_after defs l.next ≤ size → block_slots defs l.body ≤ size
            → HasAt codes start (loop_tested defs l.condition (tested_body l) (whole_if defs l.next))
            → Does (suc (tested_back start l)) rest → Exits (suc (tested_back start l) + l.rest) l.around rest → TestedAt start l rest

      pub data EnteredAt : (start : ℕ) → LoopIn → Block → Type 0 where
        entered_at : {start : ℕ} {l : LoopIn} {rest : Block} → HandledLoop defs (length l.around) (loop_of l)
            → free_after defs l.condition ≤ size → free_after defs l.next ≤ size → block_slots defs l.body ≤ size
            → HasAt codes start (loop_entered defs l.condition (entered_body l) (whole_if defs l.next))
            → Does (suc (entered_test start l + length (test defs l.condition 1))) rest
            → Exits (suc (entered_test start l + length (test defs l.condition 1)) + l.rest) l.around rest → EnteredAt start l rest

      -- Where control goes on behind each loop around, and at its next turn, from the end of a block on.
      pub data Exits : (end : ℕ) → List Around → Block → Type 0 where
        exits : {end : ℕ} {around : List Around} {rest : Block}
            → ((n : ℕ) → n < length around → Does (end + leaves_at n around) (behind n rest))
            → ((n : ℕ) → n < length around → Does (end + turns_at n around) (at_turn n rest)) → Exits end around rest
