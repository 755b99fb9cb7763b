-- What files in memory tell where one stands before all others.
use Rattle.std.proofs.Common.{◌≡◌, ◌≢◌, ℕ, List, ◌∷◌, Bool, true, false, refl, sym, subst, Some, Option, cond, option_map}
use Rattle.std.specs.Prelude.{nat_eq, Result, Ok, Err, OnOk, OnErr}
use Rattle.std.specs.List.{find}
use Rattle.std.specs.Cmp.Lexicographic.{pointwise, same_text, other_text}
use Rattle.inf_ports.specs.Outside.{Stands, AnythingStands}
use Rattle.inf_ports.specs.Memory.{bytes_at}

module _ (files : List (List ℕ × List ℕ)) (path bytes : List ℕ) where
  abbrev found_by : Bool → List ℕ → Option (List ℕ)
  found_by b other = option_map (λ (file : List ℕ × List ℕ). file.1) (cond b (Some (path, bytes)) (find (λ file. pointwise nat_eq file.0 other) files))

  at_path : (b : Bool) → b ≡ pointwise nat_eq path path → found_by b path ≡ Some bytes
  at_path true e = refl
  at_path false e = absurd (other_text path path e refl)

  elsewhere : (b : Bool) (other : List ℕ) → other ≢ path → b ≡ pointwise nat_eq path other → found_by b other ≡ bytes_at files other
  elsewhere true other apart e = absurd (apart (sym (same_text path other e)))
  elsewhere false other apart e = refl

  stands_first : Stands (Some (bytes_at files)) (Some (bytes_at ((path, bytes) ∷ files))) path (Some bytes)
  stands_first = (
    bytes_at ((path, bytes) ∷ files),
    refl,
    at_path (pointwise nat_eq path path) refl,
    λ other apart. elsewhere (pointwise nat_eq path other) other apart refl,
  )

  stands_still : AnythingStands (Some (bytes_at files)) (Some (bytes_at files)) path
  stands_still = (bytes_at files path, (bytes_at files, refl, refl, λ other apart. refl))

  -- what is told then, and what is told of files that are as they were
  pub written : {T E : Type 0} (result : Result T E) (new : List (List ℕ × List ℕ)) → OnOk result (new ≡ (path, bytes) ∷ files)
      → OnOk result (Stands (Some (bytes_at files)) (Some (bytes_at new)) path (Some bytes))
  written (Ok t) new e = subst (λ (l : List (List ℕ × List ℕ)). Stands (Some (bytes_at files)) (Some (bytes_at l)) path (Some bytes)) (sym e) stands_first
  written (Err t) new e = tt

  pub unwritten : {T E : Type 0} (result : Result T E) (new : List (List ℕ × List ℕ)) → OnErr result (new ≡ files)
      → OnErr result (AnythingStands (Some (bytes_at files)) (Some (bytes_at new)) path)
  unwritten (Ok t) new e = tt
  unwritten (Err t) new e = subst (λ (l : List (List ℕ × List ℕ)). AnythingStands (Some (bytes_at files)) (Some (bytes_at l)) path) (sym e) stands_still
