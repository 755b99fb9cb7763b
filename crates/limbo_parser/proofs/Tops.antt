-- What the loop over what stands at the top level keeps.
use Rattle.std.proofs.Common.{◌≡◌, ℕ, suc, ◌<◌, Bool, true, false, List, [], ◌∷◌, ◌++◌, map, length, Ok, ap, arith}
use Rattle.limbo_lexer.specs.declared.token.Kind.{Kind}
use Rattle.limbo_tree.specs.declared.source.Top as code_top
use Rattle.limbo_tree.specs.Sources.{Top}
use Rattle.limbo_tree.specs.View.{view_top}
use Rattle.limbo_reading.specs.declared.fault.ReadError.{ReadError}
use Rattle.limbo_reading.specs.Reading.{Fails}
use Rattle.limbo_reading.specs.Lists.{until}
use Rattle.limbo_reading.proofs.Steps.{kept_shorter}
use Rattle.limbo_reading.proofs.Loops.{Going, until_start, going_more, going_end, going_fails}
use Rattle.limbo_parser.specs.Sources.{at_end, top_at, tops_at}
use Rattle.limbo_parser.proofs.Keeps.{top_kept}

abbrev pub Tops : ℕ → List Kind → List code_top.Top → List Kind → Type 0
Tops b ts front rest = Going view_top (top_at b) (λ us. Ok (at_end us)) (until (top_at b) (λ us. Ok (at_end us)) (suc (length ts)) ts) front rest

pub top_shorter : (b : ℕ) (ts : List Kind) (x : Top) (us : List Kind) → top_at b ts ≡ Ok (x, us) → length us < length ts
top_shorter b ts x us e = omega (arith, kept_shorter 0 1 (length ts) (top_at b ts) x us (top_kept b ts) e)

pub tops_start : (b : ℕ) (ts : List Kind) → Tops b ts [] ts
tops_start b ts = until_start view_top (top_at b) (λ us. Ok (at_end us)) ts

pub tops_more : (b : ℕ) (ts : List Kind) (front : List code_top.Top) (rest vs : List Kind) (c : code_top.Top) → at_end rest ≡ false → top_at b rest ≡ Ok (view_top c, vs) → Tops b ts front rest → Tops b ts (front ++ (c ∷ [])) vs
tops_more b ts front rest vs c n e state = going_more view_top (top_at b) (λ us. Ok (at_end us)) _ front rest vs c (ap (λ (x : Bool). Ok x) n) e (top_shorter b rest (view_top c) vs e) state

pub tops_end : (b : ℕ) (ts : List Kind) (front : List code_top.Top) (rest : List Kind) → at_end rest ≡ true → Tops b ts front rest → tops_at b ts ≡ Ok (map view_top front, rest)
unfolding tops_at
tops_end b ts front rest e state = going_end view_top (top_at b) (λ us. Ok (at_end us)) _ front rest (ap (λ (x : Bool). Ok x) e) state

pub tops_fail : (e : ReadError) (b : ℕ) (ts : List Kind) (front : List code_top.Top) (rest : List Kind) → at_end rest ≡ false → Fails e (top_at b rest) → Tops b ts front rest → Fails e (tops_at b ts)
unfolding tops_at
tops_fail e b ts front rest n f state = going_fails e view_top (top_at b) (λ us. Ok (at_end us)) _ front rest (ap (λ (x : Bool). Ok x) n) f state
