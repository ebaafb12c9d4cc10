-- Words begin with one claim at most.
use Rattle.std.proofs.Common.{◌≡◌, ◌≢◌, ℕ, List, [], ◌∷◌, ◌++◌, codes, refl}
use Rattle.std.specs.Fmt.{signed_decimal}
use Rattle.psy_assert.specs.declared.terms.Claim.{Claim}
use Rattle.psy_assert.specs.declared.terms.Claim.TheVariants as claim
use Rattle.psy_assert.specs.declared.terms.Relation.{Relation}
use Rattle.psy_assert.specs.declared.terms.Relation.TheVariants as relation
use Rattle.psy_claims.specs.Grammar.{sign_of, claim_words}

sign_stop : (r : Relation) → sign_of r ≢ codes "stop"
sign_stop relation.Equal e = cc
sign_stop relation.Unequal e = cc
sign_stop relation.Less e = cc
sign_stop relation.AtMost e = cc
sign_stop relation.Greater e = cc
sign_stop relation.AtLeast e = cc

sign_message : (r : Relation) → sign_of r ≢ codes "message"
sign_message relation.Equal e = cc
sign_message relation.Unequal e = cc
sign_message relation.Less e = cc
sign_message relation.AtMost e = cc
sign_message relation.Greater e = cc
sign_message relation.AtLeast e = cc

pub one_claim : (c d : Claim) (more rest : List (List ℕ)) → claim_words c ++ more ≡ claim_words d ++ rest → (claim_words c ≡ claim_words d) × (more ≡ rest)
one_claim (claim.Values v r value) (claim.Values w s other) more rest e =
    let name : v.now ≡ w.now = cc in
    let sign : sign_of r ≡ sign_of s = cc in
    let number : signed_decimal value ≡ signed_decimal other = cc in
    let words : v.now ∷ sign_of r ∷ signed_decimal value ∷ [] ≡ w.now ∷ sign_of s ∷ signed_decimal other ∷ [] = cc (name, sign, number) in
    let behind : more ≡ rest = cc in (words, behind)
one_claim (claim.Values v r value) claim.NoStop more rest e = let sign : sign_of r ≡ codes "stop" = cc in absurd (sign_stop r sign)
one_claim (claim.Values v r value) (claim.NoMessage b) more rest e = let sign : sign_of r ≡ codes "message" = cc in absurd (sign_message r sign)
one_claim (claim.Values v r value) (claim.SomeMessage b) more rest e = let sign : sign_of r ≡ codes "message" = cc in absurd (sign_message r sign)
one_claim claim.NoStop (claim.Values w s other) more rest e = let sign : sign_of s ≡ codes "stop" = cc in absurd (sign_stop s sign)
one_claim claim.NoStop claim.NoStop more rest e = let behind : more ≡ rest = cc in (refl, behind)
one_claim claim.NoStop (claim.NoMessage b) more rest e = let clash : ⊥ = cc in absurd clash
one_claim claim.NoStop (claim.SomeMessage b) more rest e = let clash : ⊥ = cc in absurd clash
one_claim (claim.NoMessage a) (claim.Values w s other) more rest e = let sign : sign_of s ≡ codes "message" = cc in absurd (sign_message s sign)
one_claim (claim.NoMessage a) claim.NoStop more rest e = let clash : ⊥ = cc in absurd clash
one_claim (claim.NoMessage a) (claim.NoMessage b) more rest e =
    let name : a.now ≡ b.now = cc in
    let words : codes "no" ∷ codes "message" ∷ codes "on" ∷ a.now ∷ [] ≡ codes "no" ∷ codes "message" ∷ codes "on" ∷ b.now ∷ [] = cc name in
    let behind : more ≡ rest = cc in (words, behind)
one_claim (claim.NoMessage a) (claim.SomeMessage b) more rest e = let clash : ⊥ = cc in absurd clash
one_claim (claim.SomeMessage a) (claim.Values w s other) more rest e = let sign : sign_of s ≡ codes "message" = cc in absurd (sign_message s sign)
one_claim (claim.SomeMessage a) claim.NoStop more rest e = let clash : ⊥ = cc in absurd clash
one_claim (claim.SomeMessage a) (claim.NoMessage b) more rest e = let clash : ⊥ = cc in absurd clash
one_claim (claim.SomeMessage a) (claim.SomeMessage b) more rest e =
    let name : a.now ≡ b.now = cc in
    let words : codes "some" ∷ codes "message" ∷ codes "on" ∷ a.now ∷ [] ≡ codes "some" ∷ codes "message" ∷ codes "on" ∷ b.now ∷ [] = cc name in
    let behind : more ≡ rest = cc in (words, behind)
