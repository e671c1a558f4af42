-- The words that name what is written and by which kernel.
use Rattle.std.specs.Prelude.{◌≡◌, ℕ, List, Option, MatchOption, codes}
use Rattle.std.specs.Borrow.{Bor}
use Rattle.escape_simd.specs.declared.Kernel.{Kernel}
use Rattle.escape_simd.specs.declared.Kernel.TheVariants.{V128, Sse2, Neon, Avx2, Avx512}
use Rattle.escape_simd.specs.declared.Mode.{Mode}
use Rattle.escape_simd.specs.declared.Mode.TheVariants.{Json, Html, Script}

-- the word for the mode
abbrev pub mode_word : Mode → List ℕ
mode_word Json = codes "json"
mode_word Html = codes "html"
mode_word Script = codes "script"

-- the word for the kernel
abbrev pub kernel_word : Kernel → List ℕ
kernel_word V128 = codes "v128"
kernel_word Sse2 = codes "sse2"
kernel_word Neon = codes "neon"
kernel_word Avx2 = codes "avx2"
kernel_word Avx512 = codes "avx512"

-- the second word names the kernel, and no second word names `Avx2`
abbrev pub NamesKernel : Option (Bor (List ℕ)) → Kernel → Type 0
NamesKernel word kernel = MatchOption word (kernel ≡ Avx2) (λ w. w.now ≡ kernel_word kernel)
