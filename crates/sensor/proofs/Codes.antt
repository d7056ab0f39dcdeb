-- From a code to its service and back.
use mathlib.Core.Path.{◌≡◌, refl, sym}
use mathlib.Core.Logic.{◌⊎◌, inl, inr}
use mathlib.Core.Bool.{Bool, true, false, ◌&&◌}
use mathlib.Core.List.{List, [], ◌∷◌}
use Prim.Native.Nat.{ℕ, ◌%◌}
use native.Mathlib.Omega.{arith}
use lib.Dec.{T, ltb, eqb}
use borrow.Author.Tests.{eqb-true, ltb-true}
use Rattle.std.specs.Prelude.{if◌then◌else◌}
use Rattle.words.specs.Lists.{every}
use Rattle.words.proofs.Tests.{and_l, and_r, is_true, picked}
use Rattle.sensor.specs.declared.Service.{Service}
use Rattle.sensor.specs.Table.{row_of, response, services, named, service_of, is_listed}

-- a service of the table, with a code below those of responses
abbrev is_named : Service → Bool
is_named v = is_listed v && ltb (row_of v).code 0x8000

-- the service of a code is such a one and has that code, or there is none
abbrev pub Has : ℕ → Service → Type 0
Has code v = (T (is_named v) × ((row_of v).code ≡ code)) ⊎ (v ≡ Service.Unknown)

code_of : (code : ℕ) (vs : List Service) → T (every is_named vs) → Has code (named code vs)
code_of code [] h = inr refl
code_of code (v ∷ vs) h = go (eqb code (row_of v).code) refl (code_of code vs (and_r (is_named v) (every is_named vs) h))
  where
    go : (b : Bool) → eqb code (row_of v).code ≡ b → Has code (named code vs) → Has code (if b then v else named code vs)
    go true e r = inl (and_l (is_named v) (every is_named vs) h, sym (eqb-true _ _ e))
    go false e r = r

pub service_has : (code : ℕ) → Has code (service_of code)
unfolding service_of
service_has code = code_of code services tt

-- what holds of each service of the table, and of none, holds of the one that a code names
named_by : (p : Service → Bool) (code : ℕ) (vs : List Service) → T (p Service.Unknown) → T (every p vs) → T (p (named code vs))
named_by p code [] u h = u
named_by p code (v ∷ vs) u h =
    picked (λ (w : Service). T (p w)) (eqb code (row_of v).code) v (named code vs) (and_l (p v) (every p vs) h)
    (named_by p code vs u (and_r (p v) (every p vs) h))

pub found_by : (p : Service → Bool) (code : ℕ) → T (p Service.Unknown) → T (every p services) → T (p (service_of code))
unfolding service_of
found_by p code = named_by p code services

-- the response code of a service is 8000h more than its own, which 16 bits hold
pub response_is : (code : ℕ) (v : Service) → T (is_named v) → (row_of v).code ≡ code → response code % 65536 ≡ response (row_of v).code
response_is code v h e =
    let small = ltb-true (row_of v).code 0x8000 (is_true (and_r (is_listed v) (ltb (row_of v).code 0x8000) h)) in
    omega arith
