-- How many blocks a run makes, whatever fits.
use Rattle.std.proofs.Common.{ℕ, ◌+◌, ◌∷◌, length, arith}
use Rattle.dis_file.specs.declared.object.Object.{Object}
use Rattle.dis_limits.specs.Limits.{BlocksStayFew, instructions_in}
use Rattle.dis_limits.proofs.Fitting.{Allows}
use Rattle.dis_limits.proofs.Beginning.{opening_bounded}
use Rattle.dis_limits.proofs.Running.{turns_bounded, journal_bounded}

abbrev Any : ℕ → Type 0
Any n = Unit {0}

any : (o : Object) → Allows Any o
any o = record { less = λ k n l w. tt; array = tt; types = λ k t e. tt }

pub blocks_stay_few : BlocksStayFew
blocks_stay_few limit longest o others m opens journal s e i n t f =
    let first = opening_bounded Any o (any o) m opens in
    let after = journal_bounded Any limit (o ∷ others) (λ j o e. any o) (1 + length o.items) 1 longest journal _ s first e in
    let last = turns_bounded Any limit (o ∷ others) (λ j o e. any o) (1 + length o.items + instructions_in journal)
    (1 + instructions_in journal) n i s t after f in
    let few = last.heap.few in
    omega arith
