-- Why a text that has no output of a length is not written.
use Rattle.std.proofs.Common.{◌↔◌, ℕ, List}
use Rattle.escape_c.specs.declared.call.Refusal.{Refusal}
use Rattle.escape_c.specs.declared.call.Refusal.TheVariants.{NotUtf8, TooShort, TooLarge, NoKernel, NoMode}
use Rattle.escape_c.specs.Call.{HasLength, RefusesExact, RefusesLength}

-- for the same reason, whatever the buffer
pub RefusesExact-unmeasured : (mode : ℕ) (text : List ℕ) (room : ℕ) → ¬ (HasLength mode text) → (why : Refusal) → RefusesLength mode text why ↔ RefusesExact mode text room why
RefusesExact-unmeasured mode text room none NoMode = ((λ p. p), (λ p. p))
RefusesExact-unmeasured mode text room none NoKernel = ((λ p. p), (λ p. p))
RefusesExact-unmeasured mode text room none TooLarge = ((λ p. p), (λ p. p))
RefusesExact-unmeasured mode text room none TooShort = ((λ p. absurd p), (λ p. absurd (none p.0)))
RefusesExact-unmeasured mode text room none NotUtf8 = ((λ p. p), (λ p. p))
