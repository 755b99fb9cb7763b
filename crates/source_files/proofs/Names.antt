-- The built-in names.
use Rattle.std.proofs.Common.{◌≡◌, ℕ, List, true, refl, sym, subst}
use Rattle.std.specs.Prelude.{codes}
use Rattle.limbo_includes.specs.Includes.{is_built_in}
use Rattle.source_files.specs.Files.{text_of}
use Rattle.source_files.specs.declared.built_in.TheConstants.{SYS, DRAW}

pub sys_is : (name : List ℕ) → name ≡ codes "sys.m" → is_built_in name ≡ true
sys_is name e = subst (λ (z : List ℕ). is_built_in z ≡ true) (sym e) refl

pub draw_is : (name : List ℕ) → name ≡ codes "draw.m" → is_built_in name ≡ true
draw_is name e = subst (λ (z : List ℕ). is_built_in z ≡ true) (sym e) refl

pub sys_text : (name : List ℕ) → name ≡ codes "sys.m" → SYS.now ≡ text_of name
unfolding text_of
sys_text name e = subst (λ (z : List ℕ). SYS.now ≡ text_of z) (sym e) refl

pub draw_text : (name : List ℕ) → name ≡ codes "draw.m" → DRAW.now ≡ text_of name
unfolding text_of
draw_text name e = subst (λ (z : List ℕ). DRAW.now ≡ text_of z) (sym e) refl
