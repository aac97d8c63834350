-- SCOPE, C1 and C2: a contract made of claims, in the words in which the toolchain makes one of `ensures` lines.
--     asserted    claims as an assertion
--     ensuring    the contract that requires nothing and ensures these claims: of the arguments, the answer, and the arguments as the call leaves them
use Rattle.std.specs.Prelude.{List, [], ◌∷◌}
use seplogic.Ra.Ura.{Ura}
use base.Logic.{SProp, sep, emp}
use contract.Monad.{fact}
use contract.Lifetimes.{Lfts}
use types.Logic.{Logic}
use denote.Triple.Entry.{Args, Res}
use denote.Triple.Clauses.{Ended, AtExit}
use denote.Triple.Spec.{Spec, exits}

module _ {M : Type 1} (𝓤 : Ura M) where
  -- all of these claims hold
  abbrev pub asserted : List (Type 0) → SProp 𝓤
  asserted [] = emp 𝓤
  asserted (claim ∷ []) = fact 𝓤 claim
  asserted (claim ∷ other ∷ rest) = sep 𝓤 (fact 𝓤 claim) (asserted (other ∷ rest))

  -- C1: a call with this contract requires nothing of its arguments; C2: these claims are what it ensures
  abbrev pub ensuring : (𝓛 : Logic 𝓤) → (T : Ended)
      → ((κs : Lfts T.signature.lifetimes) → Args T.signature κs → Res T.signature κs → AtExit T κs → List (Type 0))
      → Spec 𝓤 T.signature
  ensuring 𝓛 T claims κs a =
      record {
        ghost = Unit {0};
        requires = λ g. emp 𝓤;
        ensures = λ g r. exits 𝓛 T.signature T.kept κs a (λ e. asserted (claims κs a r e));
      }
