-- The operation that a sound process is to do next has such operands as it takes, and the function that it calls such arguments.
use Rattle.std.proofs.Common.{◌≡◌, List, [], ◌∷◌, map, Option, Some, None, subst}
use Rattle.limbo_values.specs.declared.number.Kind.{Kind}
use Rattle.limbo_values.specs.declared.number.Kind.TheVariants as kind
use Rattle.limbo_typed.specs.declared.operation.Operation.{Operation}
use Rattle.limbo_typed.specs.Typed.{Function}
use Rattle.system_model.specs.Values.{Value}
use Rattle.typed_meaning.specs.Values.{kind_of}
use Rattle.typed_meaning.specs.Trees.{Place, Term, Evaluated, Awaiting, Missing, Literal, Read, Apply, Lazy, Deciding, Store, Change, Put}
use Rattle.typed_meaning.specs.Trees.{Call, Print, Terms, NoTerms, MoreTerms}
use Rattle.typed_meaning.specs.Trees.{Stm, Over, Eval, Set, If, While, Enter, Break, Continue, Return, Leave, Block, Done, Then, Turn}
use Rattle.typed_meaning.specs.Trees.{Again}
use Rattle.typed_meaning.specs.Evaluation.{Progress, Finished, Stepped, Writes, Calls, Prints, Raises, Blocked, next, next_all}
use Rattle.typed_meaning.specs.Breaks.{Applied, applied_to, first_ready, applied_in, applied_among, applied_by_stm, applied_by_block}
use Rattle.typed_part.specs.Part.{operands}
use Rattle.part_going.specs.Fitting.{Takes, Called, Passes, called_in, called_by_stm, called_by_block}
use Rattle.part_going.proofs.Sound.{HasKind, HaveKinds, GoodTerm, GoodTerms, next_good, next_all_good}
use Rattle.part_going.proofs.Sound.{SoundTerm, SoundStm, SoundBlock}

-- an operation that comes next takes its operands
abbrev pub Fitting : Option Applied → Type 0
Fitting None = Unit {0}
Fitting (Some a) = Takes a

first_fits : (g : Progress Value Term) (here behind : Option Applied) → Fitting here → Fitting behind → Fitting (first_ready g here behind)
first_fits (Finished v) here behind h k = k
first_fits (Stepped t) here behind h k = h
first_fits (Writes q v t) here behind h k = h
first_fits (Calls f vs t) here behind h k = h
first_fits (Prints ps vs t) here behind h k = h
first_fits (Raises text) here behind h k = h
first_fits Blocked here behind h k = h

module _ (functions : List Function) where
  applied_fits : (o : Operation) (ks : List Kind) (g : Progress (List Value) Terms) (within : Option Applied) → operands o ≡ Some ks
      → GoodTerms functions ks g → Fitting within → Fitting (applied_to o g within)
  applied_fits o ks (Finished vs) within e h k = record { kinds = ks; taken = e; given = h }
  applied_fits o ks (Stepped t) within e h k = k
  applied_fits o ks (Writes q v t) within e h k = k
  applied_fits o ks (Calls f vs t) within e h k = k
  applied_fits o ks (Prints ps vs t) within e h k = k
  applied_fits o ks (Raises text) within e h k = k
  applied_fits o ks Blocked within e h k = k

  module _ (reads : Place → Value) where
    mutual
      term_fits : (t : Term) (k : Kind) → HasKind functions t k → Fitting (applied_in reads t)
      term_fits (Evaluated v) k h = tt
      term_fits (Awaiting t) k h = tt
      term_fits Missing k h = tt
      term_fits (Literal t v) k h = tt
      term_fits (Read p) k h = tt
      term_fits (Apply o ts) k h =
          let ks = h.1.0 in
          applied_fits o ks (next_all reads ts) (applied_among reads ts) h.1.1 (next_all_good functions reads ts ks h.1.2)
          (terms_fit ts ks h.1.2)
      term_fits (Lazy c l r) k h = term_fits l kind.Int h.1
      term_fits (Deciding r) k h = term_fits r kind.Int h.1
      term_fits (Store p t) k h = term_fits t k h
      term_fits (Change o g p ts) k h =
          let ks = h.1.0 in
          applied_fits o ks (next_all reads ts) (applied_among reads ts) h.1.1 (next_all_good functions reads ts ks h.1.2)
          (terms_fit ts ks h.1.2)
      term_fits (Put p v w) k h = tt
      term_fits (Call t f ts) k h = terms_fit ts (map kind_of h.1.0.of.args) h.1.2
      term_fits (Print ps ts) k h = terms_fit ts h.1.0 h.1.1

      terms_fit : (ts : Terms) (ks : List Kind) → HaveKinds functions ts ks → Fitting (applied_among reads ts)
      terms_fit NoTerms ks h = tt
      terms_fit (MoreTerms t ts) [] h = absurd h
      terms_fit (MoreTerms t ts) (k ∷ ks) h =
          first_fits (next reads t) (applied_in reads t) (applied_among reads ts) (term_fits t k h.0) (terms_fit ts ks h.1)

    stm_fits : (s : Stm) → SoundStm functions s → Fitting (applied_by_stm reads s)
    stm_fits Over h = tt
    stm_fits (Eval t) h = term_fits t h.0 h.1
    stm_fits (Set qs t) h = term_fits t h.0 h.1
    stm_fits (If t a b) h = term_fits t h.0.0 h.0.1
    stm_fits (While t l) h = term_fits t h.0.0 h.0.1
    stm_fits (Enter l) h = tt
    stm_fits (Break n) h = tt
    stm_fits (Continue n) h = tt
    stm_fits (Return t) h = term_fits t h.0 h.1
    stm_fits Leave h = tt

    block_fits : (b : Block) → SoundBlock functions b → Fitting (applied_by_block reads b)
    block_fits Done h = tt
    block_fits (Then s rest) h = stm_fits s h.0
    block_fits (Turn l rest) h = tt
    block_fits (Again l rest) h = tt

    pub operands_fit : (b : Block) (a : Applied) → SoundBlock functions b → applied_by_block reads b ≡ Some a → Takes a
    operands_fit b a h e = subst Fitting e (block_fits b h)

    -- ---- calls

    abbrev Passing : Option Called → Type 0
    Passing None = Unit {0}
    Passing (Some c) = Passes functions c

    call_passes : (k : Kind) (g : Progress Value Term) → GoodTerm functions k g → Passing (called_in g)
    call_passes k (Finished v) h = tt
    call_passes k (Stepped t) h = tt
    call_passes k (Writes q v t) h = tt
    call_passes k (Calls f vs t) h = h.0
    call_passes k (Prints ps vs t) h = tt
    call_passes k (Raises text) h = tt
    call_passes k Blocked h = tt

    term_passes : (t : Term) → SoundTerm functions t → Passing (called_in (next reads t))
    term_passes t h = call_passes h.0 (next reads t) (next_good functions reads t h.0 h.1)

    stm_passes : (s : Stm) → SoundStm functions s → Passing (called_by_stm reads s)
    stm_passes Over h = tt
    stm_passes (Eval t) h = term_passes t h
    stm_passes (Set qs t) h = term_passes t h
    stm_passes (If t a b) h = term_passes t h.0
    stm_passes (While t l) h = term_passes t h.0
    stm_passes (Enter l) h = tt
    stm_passes (Break n) h = tt
    stm_passes (Continue n) h = tt
    stm_passes (Return t) h = term_passes t h
    stm_passes Leave h = tt

    block_passes : (b : Block) → SoundBlock functions b → Passing (called_by_block reads b)
    block_passes Done h = tt
    block_passes (Then s rest) h = stm_passes s h.0
    block_passes (Turn l rest) h = tt
    block_passes (Again l rest) h = tt

    pub arguments_fit : (b : Block) (c : Called) → SoundBlock functions b → called_by_block reads b ≡ Some c → Passes functions c
    arguments_fit b c h e = subst Passing e (block_passes b h)
