-- A row as a chain of stages: of each something is said of the process on its way that others don't change, and the code that is left.
use Rattle.std.proofs.Common.{◌≡◌, ℕ, suc, ◌+◌, ◌≤◌, List, [], ◌∷◌, length, Some}
use Rattle.std.proofs.Common.{refl, ap, ◌∙◌, arith}
use Rattle.std.specs.Prelude.{slice_get}
use Rattle.process_model.specs.Process.{Went}
use Rattle.process_model.specs.Follows.{Only}
use Rattle.process_ways.specs.Ways.{Does, Way}
use Rattle.process_ways.proofs.On.{silent}
use Rattle.limbo_types.specs.Types.{Ty}
use Rattle.limbo_typed.specs.Typed as typed
use Rattle.limbo_meaning.specs.Process.{Shared}
use Rattle.core_code.specs.Code.{Instr}
use Rattle.core_code.specs.Machine as code
use Rattle.core_typing.specs.Held as held
use Rattle.dis_isa.specs.declared.inst.Inst.{Inst}
use Rattle.dis_meaning.specs.Process.{Process}
use Rattle.dis_memory.specs.Blocks.{World}
use Rattle.value_words.specs.Facts.{Facts}
use Rattle.value_moves.specs.Operands.{Code}
use Rattle.value_code.specs.Objects.{object_of, of_function, blank_site}
use Rattle.value_code.specs.Code.{Site, code_of}
use Rattle.number_effects.specs.Stepping.{Reaches}
use Rattle.value_follows.specs.Sides.{sides, HoldTheSame}
use Rattle.value_follows.specs.Rows.{Base, RowStands, place, AreThere, site_of}
use Rattle.rows_dropping.proofs.Spare.{OnWay}
use Rattle.rows_dropping.proofs.Steps.{size, place_mid, row, at_site, reaches_it}

module _ (m : typed.Module) (b : Base m) (i : ℕ) (p : code.Process) (instr : Instr) (here : slice_get p.frame.code p.frame.pc ≡ Some instr)
    (known : held.Slots) (busy : List ℕ) (from : ℕ) (whole : Ty) where
  -- What is said of the process so far behind the begin of its row.
  pub record Stage : Type 1 where
    pub at : (far : ℕ) → Facts → World → Process → Type 0
    pub way : (far : ℕ) (k : Facts) (x : World) (q : Process) → at far k x q → OnWay m i p known busy far k x q
    pub told : (far : ℕ) (k : Facts) (x : World) (q : Process) (a : at far k x q) → (number at : ℕ) →
        (site_of m number (way far k x q a).stands.is.function p.frame.pc at).told from ≡ whole
    pub later : (far : ℕ) (k now : Facts) (x y : World) (q : Process) → at far k x q → (sides m).leaves i k now x y →
        HoldTheSame m now i y p q → at far now y q
    pub holds : (far : ℕ) (k : Facts) (w : Shared) (x : World) (q : Process) → at far k x q → (sides m).worlds k w x → AreThere m x q →
        HoldTheSame m k i x p q

  -- The code that is left, at a site where the slot's value is of its type: it stands there, and nothing behind it.
  abbrev pub Rest : (far : ℕ) → (Site → Code) → Type 0
  Rest far left =
      (c : Site) → c.scene.adts ≡ m.adts → c.told from ≡ whole →
      ((j : ℕ) → slice_get (code_of c instr) (far + j) ≡ slice_get (left c) j) × (length (code_of c instr) ≡ far + length (left c))

  -- What one instruction comes to.
  pub record Comes (B : Facts → World → Process → Type 0) (k : Facts) (w : Shared) (x : World) (q : Process) : Type 0 where
    pub now : Facts
    pub world : World
    pub process : Process
    pub goes : (sides m).code.step x q ≡ Went world process
    pub changes : (sides m).changes (Only i) k now x world
    pub worlds : (sides m).worlds now w world
    pub after : B now world process

  -- From a stage with such code the row goes to its end.
  abbrev pub Leads : Stage → (Site → Code) → Type 0
  Leads s left =
      (n : ℕ) × ((far : ℕ) → Rest far left → (k : Facts) (x : World) (q : Process) → s.at far k x q → HoldTheSame m k i x p q
      → Way (sides m) (place m) (suc n) k i x p q)

  -- the same code
  pub leads_same : (s : Stage) (left other : Site → Code)
      → ((c : Site) → c.scene.adts ≡ m.adts → c.told from ≡ whole → left c ≡ other c) → Leads s other → Leads s left
  leads_same s left other same l = (
    l.0,
    λ far rest. l.1 far (λ c e f.
        let r = rest c e f in
        ((λ j. r.0 j ∙ ap (λ (cs : Code). slice_get cs j) (same c e f)), r.1 ∙ ap (λ (cs : Code). far + length cs) (same c e f))),
  )

  -- another stage, where the one is the other
  pub leads_from : (s t : Stage) (left : Site → Code) → ((far : ℕ) (k : Facts) (x : World) (q : Process) → s.at far k x q → t.at far k x q)
      → Leads t left → Leads s left
  leads_from s t left then_so l = (l.0, λ far rest k x q a hold. l.1 far rest k x q (then_so far k x q a) hold)

  module _ (s : Stage) (left : Site → Code) (far : ℕ) (rest : Rest far left) (k : Facts) (x : World) (q : Process) (a : s.at far k x q) where
    abbrev way_here : OnWay m i p known busy far k x q
    way_here = s.way far k x q a

    -- how long the row is
    pub long_here : size m b i p instr here known busy far k x q way_here
        ≡ far + length (left (blank_site m way_here.stands.is.function.of.answer (of_function m way_here.stands.is.function) p.frame.pc))
    long_here =
        (rest (blank_site m way_here.stands.is.function.of.answer (of_function m way_here.stands.is.function) p.frame.pc) refl (s.told far k x q a 0 0)).1

    module _ (w : Shared) (hold : HoldTheSame m k i x p q) (worlds : (sides m).worlds k w x) where
      abbrev pub site_here : Site
      site_here = at_site m b i p instr here known busy far k x q way_here w hold worlds

      -- each of its instructions stands there
      pub stands_here : (j : ℕ) → slice_get (code_of site_here instr) (far + j) ≡ slice_get (left site_here) j
      stands_here j =
          (rest site_here refl (s.told far k x q a way_here.stands.is.number
          (row m b i p instr here known busy far k x q way_here w hold worlds).at)).0 j

      pub reaches_here : (e : Inst) → slice_get (left site_here) 0 ≡ Some e → Reaches (object_of m ∷ []) x q (object_of m) e
      reaches_here e g =
          let zero_on : far ≡ far + 0 = omega arith in
          reaches_it m b i p instr here known busy far k x q way_here w hold worlds e
          (ap (λ (n : ℕ). slice_get (code_of site_here instr) n) zero_on ∙ stands_here 0 ∙ g)

  -- One instruction, behind which the other process hasn't stepped.
  module _ (s t : Stage) (first : Site → Inst) (left : Site → Code) (two : (c : Site) → 2 ≤ length (left c))
      (does : (far : ℕ) (k : Facts) (w : Shared) (x : World) (q : Process) (a : s.at far k x q) (hold : HoldTheSame m k i x p q)
      (worlds : (sides m).worlds k w x) (number : ℕ) (there : slice_get m.functions number ≡ Some (s.way far k x q a).stands.is.function)
      (row : RowStands m number (s.way far k x q a).stands.is.function p.frame.pc instr)
      → Reaches (object_of m ∷ []) x q (object_of m) (first (site_of m number (s.way far k x q a).stands.is.function p.frame.pc row.at))
      → Comes (t.at (suc far)) k w x q) where
    next_rest : (far : ℕ) → Rest far (λ c. first c ∷ left c) → Rest (suc far) left
    next_rest far rest c e f =
        let r = rest c e f in
        let long = r.1 in (
          (λ j. let on : suc far + j ≡ far + suc j = omega arith in ap (λ (n : ℕ). slice_get (code_of c instr) n) on ∙ r.0 (suc j)),
          omega (arith, long),
        )

    pub step_on : Leads t left → Leads s (λ c. first c ∷ left c)
    step_on l = (
      suc l.0,
      λ far rest k x q a hold. (
        hold,
        λ now y w left_so h worlds.
            let a' = s.later far k now x y q a left_so h in
            goes far rest now w y q a' h worlds,
      ),
    )
      where
        goes : (far : ℕ) → Rest far (λ c. first c ∷ left c) → (k : Facts) (w : Shared) (x : World) (q : Process) → s.at far k x q
            → HoldTheSame m k i x p q → (sides m).worlds k w x
            → Does (sides m) (place m) (λ n z r u. Way (sides m) (place m) (suc l.0) n i z r u) (place m q) k i w x p ((sides m).code.step x q)
        goes far rest k w x q a hold worlds =
            let code_so : Site → Code = λ c. first c ∷ left c in
            let way = s.way far k x q a in
            let stands = row m b i p instr here known busy far k x q way w hold worlds in
            let c = does far k w x q a hold worlds way.stands.is.number way.stands.is.there stands
            (reaches_here s code_so far rest k x q a w hold worlds (first (site_of m way.stands.is.number way.stands.is.function p.frame.pc stands.at)) refl) in
            let after = t.way (suc far) c.now c.world c.process c.after in
            let live = b.there_again x c.world q c.process c.goes worlds.0.closed (λ n g. hold.same.live n (hold.same.roots n g)) in
            let long = long_here s code_so far rest k x q a in
            let enough = two (blank_site m way.stands.is.function.of.answer (of_function m way.stands.is.function) p.frame.pc) in
            let long' = long_here t left (suc far) (next_rest far rest) c.now c.world c.process c.after in
            let enough' = two (blank_site m after.stands.is.function.of.answer (of_function m after.stands.is.function) p.frame.pc) in
            let low = place_mid m b i p instr here known busy far k x q way (omega (arith, long, enough)) in
            let high = place_mid m b i p instr here known busy (suc far) c.now c.world c.process after (omega (arith, long', enough')) in
            silent (sides m) (place m) (λ n z r u. Way (sides m) (place m) (suc l.0) n i z r u) k c.now i w x c.world p q c.process c.goes c.changes
            c.worlds (omega (arith, low, high))
            (l.1 (suc far) (next_rest far rest) c.now c.world c.process c.after
            (t.holds (suc far) c.now w c.world c.process c.after c.worlds live))
