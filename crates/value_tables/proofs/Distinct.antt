-- Types that are collected one behind the other, each once; and the number of one that is there.
use Rattle.std.proofs.Common.{◌≡◌, suc, Bool, true, false, List, [], ◌∷◌, ◌++◌, refl, ap}
use Rattle.std.specs.Prelude.{if◌then◌else◌, ◌||◌}
use Rattle.dis_file.specs.declared.types.TypeDesc.{TypeDesc}
use Rattle.dis_memory.specs.Arrays.{are_alike}
use Rattle.value_code.specs.Objects.{is_known, distinct_from, number_among}

-- Some types, and then more.
pub distinct_append : (known ds es : List TypeDesc) → distinct_from known (ds ++ es) ≡ distinct_from (distinct_from known ds) es
distinct_append known [] es = refl
distinct_append known (d ∷ ds) es = go (distinct_append known ds es) (distinct_append (known ++ d ∷ []) ds es) (is_known known d)
  where
    go : distinct_from known (ds ++ es) ≡ distinct_from (distinct_from known ds) es
        → distinct_from (known ++ d ∷ []) (ds ++ es) ≡ distinct_from (distinct_from (known ++ d ∷ []) ds) es → (b : Bool)
        → (if b then distinct_from known (ds ++ es) else distinct_from (known ++ d ∷ []) (ds ++ es))
        ≡ distinct_from (if b then distinct_from known ds else distinct_from (known ++ d ∷ []) ds) es
    go there new true = there
    go there new false = new

-- The number of a type that is there stays as it is where more come behind.
pub number_stays : (ds es : List TypeDesc) (d : TypeDesc) → is_known ds d ≡ true → number_among (ds ++ es) d ≡ number_among ds d
number_stays [] es d k = absurd cc
number_stays (x ∷ ds) es d k = go (number_stays ds es d) (are_alike x d) k
  where
    go : (is_known ds d ≡ true → number_among (ds ++ es) d ≡ number_among ds d) → (b : Bool) → b || is_known ds d ≡ true
        → (if b then 0 else suc (number_among (ds ++ es) d)) ≡ (if b then 0 else suc (number_among ds d))
    go rest true e = refl
    go rest false e = ap suc (rest e)
