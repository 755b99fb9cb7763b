-- What stands in the code of loops, and that what is left of a block keeps its form.
use Rattle.std.proofs.Common.{◌≡◌, ℕ, zero, suc, ◌+◌, ◌≤◌, List, [], ◌∷◌, ◌++◌, length, Option, Some, ap, subst, arith}
use Rattle.std.proofs.Common.{length-append}
use Rattle.std.specs.Prelude.{slice_get}
use Rattle.limbo_layout.specs.Adts.{Def}
use Rattle.limbo_meaning.specs.Trees.{Term, Loop, Looping, Block, Done, Then, Turn, Again, join, entered, behind, at_turn}
use Rattle.limbo_kept.specs.Trees.{Scope}
use Rattle.core_code.specs.Code.{Instr, Back}
use Rattle.core_code.specs.Terms.{lower}
use Rattle.core_code.specs.Statements.{whole, whole_if, test, free_after}
use Rattle.core_follows.specs.Drops.{HasAt}
use Rattle.core_follows.specs.Handled.{Handled, HandledIf}
use Rattle.core_follows.specs.Does.{LoopIn, tested_body, tested_head, entered_body, tested_turn, tested_back, entered_turn}
use Rattle.core_follows.specs.Does.{entered_test, Ready, Does, TestedAt, tested_at, EnteredAt, entered_at}
use Rattle.core_follows.proofs.Holding.{has_front, has_back}
use Rattle.core_typing.specs.Trees.{LoopFormed, BlockFormed}
use Rattle.core_typing.specs.Runs.{LoopRuns, BlockRuns}

-- ---- the form of blocks

module _ (s : Scope) where
  abbrev Fine : Block → Type 0
  Fine b = BlockFormed s b

  pub joined_formed : (a b : Block) → Fine a → Fine b → Fine (join a b)
  joined_formed Done b f g = g
  joined_formed (Then x a) b f g = (f.0, joined_formed a b f.1 g)
  joined_formed (Turn l a) b f g = (f.0, joined_formed a b f.1 g)
  joined_formed (Again l a) b f g = (f.0, joined_formed a b f.1 g)

  pub entered_formed : (l : Loop) (b : Block) → LoopFormed s l → Fine b → Fine (entered l b)
  entered_formed (Looping c n body) b f g = joined_formed body (Turn (Looping c n body) b) f.2 (f, g)

  pub behind_formed : (k : ℕ) (b : Block) → Fine b → Fine (behind k b)
  behind_formed k Done f = f
  behind_formed k (Then x b) f = behind_formed k b f.1
  behind_formed k (Again l b) f = behind_formed k b f.1
  behind_formed zero (Turn l b) f = f.1
  behind_formed (suc k) (Turn l b) f = behind_formed k b f.1

  pub at_turn_formed : (k : ℕ) (b : Block) → Fine b → Fine (at_turn k b)
  at_turn_formed k Done f = f
  at_turn_formed k (Then x b) f = at_turn_formed k b f.1
  at_turn_formed k (Again l b) f = at_turn_formed k b f.1
  at_turn_formed zero (Turn l b) f = f
  at_turn_formed (suc k) (Turn l b) f = at_turn_formed k b f.1

-- ---- what is run of blocks

module _ (defs : List Def) where
  pub joined_runs : (a b : Block) → BlockRuns defs a → BlockRuns defs b → BlockRuns defs (join a b)
  joined_runs Done b f g = g
  joined_runs (Then x a) b f g = (f.0, joined_runs a b f.1 g)
  joined_runs (Turn l a) b f g = (f.0, joined_runs a b f.1 g)
  joined_runs (Again l a) b f g = (f.0, joined_runs a b f.1 g)

  pub entered_runs : (l : Loop) (b : Block) → LoopRuns defs l → BlockRuns defs b → BlockRuns defs (entered l b)
  entered_runs (Looping c n body) b f g = joined_runs body (Turn (Looping c n body) b) f.2 (f, g)

  pub behind_runs : (k : ℕ) (b : Block) → BlockRuns defs b → BlockRuns defs (behind k b)
  behind_runs k Done f = f
  behind_runs k (Then x b) f = behind_runs k b f.1
  behind_runs k (Again l b) f = behind_runs k b f.1
  behind_runs zero (Turn l b) f = f.1
  behind_runs (suc k) (Turn l b) f = behind_runs k b f.1

  pub at_turn_runs : (k : ℕ) (b : Block) → BlockRuns defs b → BlockRuns defs (at_turn k b)
  at_turn_runs k Done f = f
  at_turn_runs k (Then x b) f = at_turn_runs k b f.1
  at_turn_runs k (Again l b) f = at_turn_runs k b f.1
  at_turn_runs zero (Turn l b) f = f
  at_turn_runs (suc k) (Turn l b) f = at_turn_runs k b f.1

-- ---- the code of loops

module _ (defs : List Def) (codes : List Instr) (size : ℕ) where
  abbrev Tested : ℕ → LoopIn → Block → Type 0
  Tested start l rest = TestedAt defs codes size start l rest

  abbrev Entered : ℕ → LoopIn → Block → Type 0
  Entered start l rest = EnteredAt defs codes size start l rest

  handled_some : (c : Option Term) (x : Term) → c ≡ Some x → HandledIf defs c → Handled defs x
  handled_some c x e h = subst (HandledIf defs) e h

  free_some : (c : Option Term) (x : Term) → c ≡ Some x → free_after defs c ≤ size → (lower defs 0 x).free ≤ size
  free_some c x e l = subst (λ (o : Option Term). free_after defs o ≤ size) e l

  -- Back over so many instructions at this place, to the beginning.
  abbrev pub BackAt : (start place : ℕ) → Type 0
  BackAt start place = (n : ℕ) × (slice_get codes place ≡ Some (Back n)) × (start + n ≡ place)

  -- A tree stands at one place, and another begins behind it.
  abbrev pub TreeAt : (place behind : ℕ) → Term → Type 0
  TreeAt place behind t = HasAt codes place (whole defs t) × Ready defs codes size t × (place + length (whole defs t) ≡ behind)

  pub tested_has_back : (start : ℕ) (l : LoopIn) (rest : Block) → Tested start l rest → BackAt start (tested_back defs start l)
  tested_has_back start l rest (tested_at c ec h s1 s2 s3 has d x) =
      let head = tested_head defs l in
      let bc = tested_body defs l in
      let nc = whole_if defs l.next in
      let m = length-append bc nc in
      let back = Back (length head + length (bc ++ nc)) ∷ [] in
      let h1 = has_back codes (start + length head) (bc ++ nc) back (has_back codes start head ((bc ++ nc) ++ back) has) in
      let z : start + length head + length (bc ++ nc) ≡ tested_back defs start l = omega arith in (
        length head + length (bc ++ nc),
        subst (λ (q : ℕ). slice_get codes q ≡ Some (Back (length head + length (bc ++ nc)))) z h1.0,
        omega arith,
      )

  pub tested_has_next : (start : ℕ) (l : LoopIn) (rest : Block) (t : Term) → l.next ≡ Some t → Tested start l rest
      → TreeAt (tested_turn defs start l) (tested_back defs start l) t
  tested_has_next start l rest t en (tested_at c ec h s1 s2 s3 has d x) =
      let head = tested_head defs l in
      let bc = tested_body defs l in
      let nc = whole_if defs l.next in
      let back = Back (length head + length (bc ++ nc)) ∷ [] in
      let h1 = has_back codes (start + length head) bc nc (has_front codes (start + length head) (bc ++ nc) back
      (has_back codes start head ((bc ++ nc) ++ back) has)) in
      let same : nc ≡ whole defs t = ap (λ (o : Option Term). whole_if defs o) en in
      let m = ap length same in (
        subst (HasAt codes (tested_turn defs start l)) same h1,
        (handled_some l.next t en h.1, free_some l.next t en s2),
        omega arith,
      )

  pub tested_has_condition : (start : ℕ) (l : LoopIn) (rest : Block) → Tested start l rest → (c : Term) × (l.condition ≡ Some c)
  tested_has_condition start l rest (tested_at c ec h s1 s2 s3 has d x) = (c, ec)

  pub tested_has_test : (start : ℕ) (l : LoopIn) (rest : Block) (c : Term) → l.condition ≡ Some c → Tested start l rest
      → (n : ℕ) × Ready defs codes size c × HasAt codes start (test defs (Some c) n)
      × (start + length (test defs (Some c) n) ≡ start + length (tested_head defs l))
      × (start + length (test defs (Some c) n) + n ≡ suc (tested_back defs start l))
  tested_has_test start l rest c ec (tested_at c' ec' h s1 s2 s3 has d x) =
      let n : ℕ = suc (length (tested_body defs l ++ whole_if defs l.next)) in
      let head = tested_head defs l in
      let turn = tested_body defs l ++ whole_if defs l.next in
      let has_head = has_front codes start head (turn ++ (Back (length head + length turn) ∷ [])) has in
      let same : head ≡ test defs (Some c) n = ap (λ (o : Option Term). test defs o n) ec in
      let m = length-append (tested_body defs l) (whole_if defs l.next) in
      let m2 = ap length same in (
        n,
        (handled_some l.condition c ec h.0, free_some l.condition c ec s1),
        subst (HasAt codes start) same has_head,
        omega arith,
        omega arith,
      )

  pub entered_has_back : (start : ℕ) (l : LoopIn) (rest : Block) → Entered start l rest
      → BackAt start (entered_test defs start l + length (test defs l.condition 1))
  entered_has_back start l rest (entered_at h s1 s2 s3 has d x) =
      let bc = entered_body defs l in
      let nc = whole_if defs l.next in
      let tc = test defs l.condition 1 in
      let m = length-append bc nc in
      let back = Back (length (bc ++ nc) + length tc) ∷ [] in
      let h1 = has_back codes (start + length (bc ++ nc)) tc back (has_back codes start (bc ++ nc) (tc ++ back) has) in
      let z : start + length (bc ++ nc) + length tc ≡ entered_test defs start l + length tc = omega arith in (
        length (bc ++ nc) + length tc,
        subst (λ (q : ℕ). slice_get codes q ≡ Some (Back (length (bc ++ nc) + length tc))) z h1.0,
        omega arith,
      )

  pub entered_has_next : (start : ℕ) (l : LoopIn) (rest : Block) (t : Term) → l.next ≡ Some t → Entered start l rest
      → TreeAt (entered_turn defs start l) (entered_test defs start l) t
  entered_has_next start l rest t en (entered_at h s1 s2 s3 has d x) =
      let bc = entered_body defs l in
      let nc = whole_if defs l.next in
      let tc = test defs l.condition 1 in
      let back = Back (length (bc ++ nc) + length tc) ∷ [] in
      let h1 = has_back codes start bc nc (has_front codes start (bc ++ nc) (tc ++ back) has) in
      let same : nc ≡ whole defs t = ap (λ (o : Option Term). whole_if defs o) en in
      let m = ap length same in (
        subst (HasAt codes (entered_turn defs start l)) same h1,
        (handled_some l.next t en h.1, free_some l.next t en s2),
        omega arith,
      )

  pub entered_has_test : (start : ℕ) (l : LoopIn) (rest : Block) (c : Term) → l.condition ≡ Some c → Entered start l rest
      → Ready defs codes size c × HasAt codes (entered_test defs start l) (test defs (Some c) 1)
      × (length (test defs l.condition 1) ≡ length (test defs (Some c) 1))
  entered_has_test start l rest c ec (entered_at h s1 s2 s3 has d x) =
      let place : ℕ = entered_test defs start l in
      let bc = entered_body defs l in
      let nc = whole_if defs l.next in
      let tc = test defs l.condition 1 in
      let m = length-append bc nc in
      let back = Back (length (bc ++ nc) + length tc) ∷ [] in
      let has_test = has_front codes (start + length (bc ++ nc)) tc back (has_back codes start (bc ++ nc) (tc ++ back) has) in
      let z : start + length (bc ++ nc) ≡ place = omega arith in
      let same : tc ≡ test defs (Some c) 1 = ap (λ (o : Option Term). test defs o 1) ec in (
        (handled_some l.condition c ec h.0, free_some l.condition c ec s1),
        subst (HasAt codes place) same (subst (λ (q : ℕ). HasAt codes q tc) z has_test),
        ap length same,
      )

  -- Behind a loop.
  pub tested_has_rest : (start : ℕ) (l : LoopIn) (rest : Block) → Tested start l rest
      → Does defs codes size (suc (tested_back defs start l)) rest
  tested_has_rest start l rest (tested_at c ec h s1 s2 s3 has d x) = d

  pub entered_has_rest : (start : ℕ) (l : LoopIn) (rest : Block) → Entered start l rest
      → Does defs codes size (suc (entered_test defs start l + length (test defs l.condition 1))) rest
  entered_has_rest start l rest (entered_at h s1 s2 s3 has d x) = d
