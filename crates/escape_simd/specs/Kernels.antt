-- The kernels by their widths.
use Rattle.std.specs.Prelude.{ℕ}
use Rattle.escape_simd.specs.declared.kernel.Kernel.{Kernel}
use Rattle.escape_simd.specs.declared.kernel.Kernel.TheVariants.{V128, Sse2, Neon, Avx2, Avx512}

-- how many bytes a vector of the kernel has
abbrev pub lanes_of : Kernel → ℕ
lanes_of V128 = 16
lanes_of Sse2 = 16
lanes_of Neon = 16
lanes_of Avx2 = 32
lanes_of Avx512 = 64
