-- What the loops of the code keep that read lists: the list so far, and what is left to read.
use Rattle.std.proofs.Common.{◌≡◌, ℕ, zero, suc, ◌+◌, ◌≤◌, ◌<◌, Bool, true, false, cond, List, [], ◌∷◌, ◌++◌, length, map, Option, Some, None, Result, Ok, Err, refl, sym, ap, subst, ◌∙◌, arith}
use Rattle.limbo_lexer.specs.declared.token.Kind.{Kind}
use Rattle.limbo_reading.specs.declared.fault.Fault.{Fault}
use Rattle.limbo_reading.specs.declared.fault.ReadError.{ReadError}
use Rattle.limbo_reading.specs.Reading.{◌>>=◌, Reader, choose, Fails}
use Rattle.limbo_reading.specs.Lists.{others, items, until}
use Rattle.limbo_reading.proofs.Steps.{fails_same, fails_bind}

-- the rest of a list behind its front
abbrev pub onward : {A : Type 0} → List A → Result (List A × List Kind) Fault → Result (List A × List Kind) Fault
onward front r = r >>= λ xs. Ok (front ++ xs.0, xs.1)

onward_none : {A : Type 0} (r : Result (List A × List Kind) Fault) → onward [] r ≡ r
onward_none (Ok x) = refl
onward_none (Err f) = refl

append_one : {A : Type 0} (xs : List A) (x : A) (ys : List A) → (xs ++ (x ∷ [])) ++ ys ≡ xs ++ (x ∷ ys)
append_one [] x ys = refl
append_one (z ∷ zs) x ys = ap (λ (l : List _). z ∷ l) (append_one zs x ys)

append_none : {A : Type 0} (xs : List A) → xs ++ [] ≡ xs
append_none [] = refl
append_none (x ∷ xs) = ap (λ (l : List _). x ∷ l) (append_none xs)

map_one : {C A : Type 0} (view : C → A) (cs : List C) (c : C) → map view (cs ++ (c ∷ [])) ≡ map view cs ++ (view c ∷ [])
map_one view [] c = refl
map_one view (d ∷ cs) c = ap (λ (l : List _). view d ∷ l) (map_one view cs c)

regroup : {A : Type 0} (front : List A) (x : A) (r : Result (List A × List Kind) Fault) → onward front (r >>= λ xs. Ok (x ∷ xs.0, xs.1)) ≡ onward (front ++ (x ∷ [])) r
regroup front x (Ok xs) = ap (λ (l : List _). Ok (l, xs.1)) (sym (append_one front x xs.0))
regroup front x (Err f) = refl

-- ---- {separator item} and item {separator item}

-- The list is read so far: its front, and then what the reader of more items gives from the rest on.
pub record Reading {C A : Type 0} (view : C → A) (r : Reader A) (separator : List Kind → Option (List Kind)) (whole : Result (List A × List Kind) Fault) (front : List C) (rest : List Kind) : Type 0 where
  pub fuel : ℕ
  pub enough : length rest ≤ fuel
  pub read : whole ≡ onward (map view front) (others r separator fuel rest)

pub others_start : {C A : Type 0} (view : C → A) (r : Reader A) (separator : List Kind → Option (List Kind)) (tokens : List Kind) → Reading view r separator (others r separator (length tokens) tokens) [] tokens
others_start view r separator tokens = record { fuel = length tokens; enough = omega arith; read = sym (onward_none _) }

-- the first item was read
pub items_start : {C A : Type 0} (view : C → A) (r : Reader A) (separator : List Kind → Option (List Kind)) (tokens : List Kind) (c : C) (rest : List Kind) → r tokens ≡ Ok (view c, rest) → Reading view r separator (items r separator tokens) (c ∷ []) rest
unfolding items
items_start view r separator tokens c rest e = record { fuel = length rest; enough = omega arith; read = rw e refl }

pub items_fail : {A : Type 0} (e : ReadError) (r : Reader A) (separator : List Kind → Option (List Kind)) (tokens : List Kind) → Fails e (r tokens) → Fails e (items r separator tokens)
unfolding items
items_fail e r separator tokens f = fails_bind e (r tokens) _ f

others_step : {A : Type 0} (r : Reader A) (separator : List Kind → Option (List Kind)) (n : ℕ) (rest us vs : List Kind) (x : A) → separator rest ≡ Some us → r us ≡ Ok (x, vs) → others r separator (suc n) rest ≡ (others r separator n vs >>= λ xs. Ok (x ∷ xs.0, xs.1))
unfolding others
others_step r separator n rest us vs x s e = rw (s, e) refl

-- one more item was read behind a separator
pub reading_more : {C A : Type 0} (view : C → A) (r : Reader A) (separator : List Kind → Option (List Kind)) (whole : Result (List A × List Kind) Fault) (front : List C) (rest us vs : List Kind) (c : C)
    → separator rest ≡ Some us → r us ≡ Ok (view c, vs) → length vs < length rest
    → Reading view r separator whole front rest → Reading view r separator whole (front ++ (c ∷ [])) vs
reading_more {C = C} {A = A} view r separator whole front rest us vs c s e le state = go state.fuel state.enough state.read
  where
    go : (fuel : ℕ) → length rest ≤ fuel → whole ≡ onward (map view front) (others r separator fuel rest) → Reading view r separator whole (front ++ (c ∷ [])) vs
    go zero k read = absurd (omega arith)
    go (suc n) k read = record {
      fuel = n;
      enough = omega arith;
      read = read ∙ ap (onward (map view front)) (others_step r separator n rest us vs (view c) s e) ∙ regroup (map view front) (view c) (others r separator n vs) ∙ ap (λ (l : List A). onward l (others r separator n vs)) (sym (map_one view front c));
    }

others_end : {A : Type 0} (r : Reader A) (separator : List Kind → Option (List Kind)) (n : ℕ) (rest : List Kind) → separator rest ≡ None → others r separator n rest ≡ Ok ([], rest)
unfolding others
others_end r separator zero rest s = rw s refl
others_end r separator (suc n) rest s = rw s refl

-- no separator follows
pub reading_end : {C A : Type 0} (view : C → A) (r : Reader A) (separator : List Kind → Option (List Kind)) (whole : Result (List A × List Kind) Fault) (front : List C) (rest : List Kind) → separator rest ≡ None → Reading view r separator whole front rest → whole ≡ Ok (map view front, rest)
reading_end view r separator whole front rest s state =
    state.read ∙ rw (others_end r separator state.fuel rest s) (ap (λ (l : List _). Ok (l, rest)) (append_none (map view front)))

others_fail : {A : Type 0} (e : ReadError) (r : Reader A) (separator : List Kind → Option (List Kind)) (n : ℕ) (rest us : List Kind) → separator rest ≡ Some us → Fails e (r us) → Fails e (others r separator (suc n) rest)
unfolding others
others_fail e r separator n rest us s f = rw s (fails_bind e (r us) _ f)

-- the next item failed
pub reading_fails : {C A : Type 0} (e : ReadError) (view : C → A) (r : Reader A) (separator : List Kind → Option (List Kind)) (whole : Result (List A × List Kind) Fault) (front : List C) (rest us : List Kind)
    → separator rest ≡ Some us → length us < length rest → Fails e (r us) → Reading view r separator whole front rest → Fails e whole
reading_fails e view r separator whole front rest us s le f state = go state.fuel state.enough state.read
  where
    go : (fuel : ℕ) → length rest ≤ fuel → whole ≡ onward (map view front) (others r separator fuel rest) → Fails e whole
    go zero k read = absurd (omega arith)
    go (suc n) k read = fails_same e _ _ read (fails_bind e _ _ (others_fail e r separator n rest us s f))

-- ---- {item} up to where they end

pub record Going {C A : Type 0} (view : C → A) (r : Reader A) (ends : List Kind → Result Bool Fault) (whole : Result (List A × List Kind) Fault) (front : List C) (rest : List Kind) : Type 0 where
  pub fuel : ℕ
  pub enough : length rest < fuel
  pub read : whole ≡ onward (map view front) (until r ends fuel rest)

pub until_start : {C A : Type 0} (view : C → A) (r : Reader A) (ends : List Kind → Result Bool Fault) (tokens : List Kind) → Going view r ends (until r ends (suc (length tokens)) tokens) [] tokens
until_start view r ends tokens = record { fuel = suc (length tokens); enough = omega arith; read = sym (onward_none _) }

until_step : {A : Type 0} (r : Reader A) (ends : List Kind → Result Bool Fault) (n : ℕ) (rest vs : List Kind) (x : A) → ends rest ≡ Ok false → r rest ≡ Ok (x, vs) → until r ends (suc n) rest ≡ (until r ends n vs >>= λ xs. Ok (x ∷ xs.0, xs.1))
unfolding until
until_step r ends n rest vs x s e = rw (s, e) refl

pub going_more : {C A : Type 0} (view : C → A) (r : Reader A) (ends : List Kind → Result Bool Fault) (whole : Result (List A × List Kind) Fault) (front : List C) (rest vs : List Kind) (c : C)
    → ends rest ≡ Ok false → r rest ≡ Ok (view c, vs) → length vs < length rest
    → Going view r ends whole front rest → Going view r ends whole (front ++ (c ∷ [])) vs
going_more {C = C} {A = A} view r ends whole front rest vs c s e le state = go state.fuel state.enough state.read
  where
    go : (fuel : ℕ) → length rest < fuel → whole ≡ onward (map view front) (until r ends fuel rest) → Going view r ends whole (front ++ (c ∷ [])) vs
    go zero k read = absurd (omega arith)
    go (suc n) k read = record {
      fuel = n;
      enough = omega arith;
      read = read ∙ ap (onward (map view front)) (until_step r ends n rest vs (view c) s e) ∙ regroup (map view front) (view c) (until r ends n vs) ∙ ap (λ (l : List A). onward l (until r ends n vs)) (sym (map_one view front c));
    }

until_end : {A : Type 0} (r : Reader A) (ends : List Kind → Result Bool Fault) (n : ℕ) (rest : List Kind) → ends rest ≡ Ok true → length rest < n → until r ends n rest ≡ Ok ([], rest)
unfolding until
until_end r ends zero rest s le = absurd (omega arith)
until_end r ends (suc n) rest s le = rw s refl

pub going_end : {C A : Type 0} (view : C → A) (r : Reader A) (ends : List Kind → Result Bool Fault) (whole : Result (List A × List Kind) Fault) (front : List C) (rest : List Kind) → ends rest ≡ Ok true → Going view r ends whole front rest → whole ≡ Ok (map view front, rest)
going_end view r ends whole front rest s state =
    state.read ∙ rw (until_end r ends state.fuel rest s state.enough) (ap (λ (l : List _). Ok (l, rest)) (append_none (map view front)))

-- the test failed, or the next item
until_fail_test : {A : Type 0} (e : ReadError) (r : Reader A) (ends : List Kind → Result Bool Fault) (n : ℕ) (rest : List Kind) → Fails e (ends rest) → Fails e (until r ends (suc n) rest)
unfolding until
until_fail_test e r ends n rest f = fails_bind e (ends rest) _ f

until_fail : {A : Type 0} (e : ReadError) (r : Reader A) (ends : List Kind → Result Bool Fault) (n : ℕ) (rest : List Kind) → ends rest ≡ Ok false → Fails e (r rest) → Fails e (until r ends (suc n) rest)
unfolding until
until_fail e r ends n rest s f = rw s (fails_bind e (r rest) _ f)

pub going_fails : {C A : Type 0} (e : ReadError) (view : C → A) (r : Reader A) (ends : List Kind → Result Bool Fault) (whole : Result (List A × List Kind) Fault) (front : List C) (rest : List Kind)
    → ends rest ≡ Ok false → Fails e (r rest) → Going view r ends whole front rest → Fails e whole
going_fails e view r ends whole front rest s f state = go state.fuel state.enough state.read
  where
    go : (fuel : ℕ) → length rest < fuel → whole ≡ onward (map view front) (until r ends fuel rest) → Fails e whole
    go zero k read = absurd (omega arith)
    go (suc n) k read = fails_same e _ _ read (fails_bind e _ _ (until_fail e r ends n rest s f))

pub going_test_fails : {C A : Type 0} (e : ReadError) (view : C → A) (r : Reader A) (ends : List Kind → Result Bool Fault) (whole : Result (List A × List Kind) Fault) (front : List C) (rest : List Kind)
    → Fails e (ends rest) → Going view r ends whole front rest → Fails e whole
going_test_fails e view r ends whole front rest f state = go state.fuel state.enough state.read
  where
    go : (fuel : ℕ) → length rest < fuel → whole ≡ onward (map view front) (until r ends fuel rest) → Fails e whole
    go zero k read = absurd (omega arith)
    go (suc n) k read = fails_same e _ _ read (fails_bind e _ _ (until_fail_test e r ends n rest f))
