-- A journal, instruction by instruction: each quantum as quanta of one instruction. The law of all journals holds whatever the longest
-- quantum is, so it holds of these, and thus also of a run that ends within a quantum.
use Rattle.std.specs.Prelude.{ℕ, zero, suc, List, [], ◌∷◌, ◌++◌}
use Rattle.process_model.specs.Machine.{Event, Quantum, Reply, Down}

abbrev pub singles : {A : Type 0} → (pid count : ℕ) → List (Event A)
singles i zero = []
singles i (suc n) = Quantum i 1 ∷ singles i n

abbrev pub fine_event : {A : Type 0} → Event A → List (Event A)
fine_event (Quantum i n) = singles i n
fine_event (Reply i a) = Reply i a ∷ []
fine_event (Down l) = Down l ∷ []

abbrev pub fine : {A : Type 0} → List (Event A) → List (Event A)
fine [] = []
fine (e ∷ es) = fine_event e ++ fine es
