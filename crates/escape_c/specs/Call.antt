-- What a call from C answers.
use Rattle.std.specs.Prelude.{◌≡◌, ◌≢◌, ◌↔◌, ℕ, ◌≤◌, ◌<◌, ◌^◌, List, ◌++◌, length, take, chars, IsUtf8}
use Rattle.std.proofs.Common.{zero, suc}
use Rattle.escape_lanes.specs.Mode.{Mode, mode_numbered}
use Rattle.escape_simd.specs.Escaping.{IsEscaping}
use Rattle.escape_simd.specs.Formatted.{IsInnerWritten, IsWritten}
use Rattle.escape_simd.specs.Headline.{IsOnlyOutput}
use Rattle.escape_simd.specs.Kernels.{lanes_of}
use Rattle.escape_simd.specs.Laws.{AgreesWithEach}
use Rattle.escape_simd.specs.Output.{bound, inner, plain, quote_of}
use Rattle.escape_simd.specs.declared.Kernel.{Kernel}
use Rattle.escape_simd.specs.declared.Kernel.TheVariants.{V128, Sse2, Neon, Avx2, Avx512}
use Rattle.escape_c.specs.declared.call.Refusal.{Refusal}
use Rattle.escape_c.specs.declared.call.Refusal.TheVariants.{NotUtf8, TooShort, TooLarge, NoKernel, NoMode}

-- a number names a mode: JSON, HTML or script
abbrev pub NamesMode : ℕ → Type 0
NamesMode mode = mode ≤ 2

-- The kernel that a number names: 0 names the default one. Numbers past 5 name none, and are refused.
abbrev pub kernel_numbered : ℕ → Kernel
kernel_numbered zero = Avx2
kernel_numbered (suc zero) = V128
kernel_numbered (suc (suc zero)) = Sse2
kernel_numbered (suc (suc (suc zero))) = Neon
kernel_numbered (suc (suc (suc (suc zero)))) = Avx2
kernel_numbered (suc (suc (suc (suc (suc n))))) = Avx512

-- how many bytes a vector of the kernel has that a number names
abbrev pub lanes_numbered : ℕ → ℕ
lanes_numbered kernel = lanes_of (kernel_numbered kernel)

-- a number names a kernel
abbrev pub NamesKernel : ℕ → Type 0
NamesKernel kernel = kernel ≤ 5

-- the status for a refusal; 0 is none
abbrev pub status_of : Refusal → ℕ
status_of NotUtf8 = 1
status_of TooShort = 2
status_of TooLarge = 3
status_of NoKernel = 4
status_of NoMode = 5

-- the text is escaped into a buffer of so many bytes
pub record Accepts (mode kernel : ℕ) (text : List ℕ) (room : ℕ) : Type 0 where
  pub names_mode : NamesMode mode
  pub names_kernel : NamesKernel kernel
  pub has_room : bound (mode_numbered mode) (length text) ≤ room
  pub is_text : IsUtf8 text

-- Why a call is refused before it looks at the text. Of several reasons the first counts: the mode, the kernel, the
-- size, the buffer.
abbrev pub RefusesCall : ℕ → ℕ → ℕ → ℕ → Refusal → Type 0
RefusesCall mode kernel n room NoMode = ¬ (NamesMode mode)
RefusesCall mode kernel n room NoKernel = NamesMode mode × ¬ (NamesKernel kernel)
RefusesCall mode kernel n room TooLarge =
    NamesMode mode × (NamesKernel kernel × (2 ^ 64 ≤ bound (mode_numbered mode) n))
RefusesCall mode kernel n room TooShort =
    NamesMode mode × (NamesKernel kernel
    × ((bound (mode_numbered mode) n < 2 ^ 64) × (room < bound (mode_numbered mode) n)))
RefusesCall mode kernel n room NotUtf8 = ⊥

-- Why the text is not escaped. The last reason is that it is no text.
abbrev pub Refuses : ℕ → ℕ → List ℕ → ℕ → Refusal → Type 0
Refuses mode kernel text room NotUtf8 = NamesMode mode
    × (NamesKernel kernel × ((bound (mode_numbered mode) (length text) ≤ room) × ¬ (IsUtf8 text)))
Refuses mode kernel text room NoMode = RefusesCall mode kernel (length text) room NoMode
Refuses mode kernel text room NoKernel = RefusesCall mode kernel (length text) room NoKernel
Refuses mode kernel text room TooLarge = RefusesCall mode kernel (length text) room TooLarge
Refuses mode kernel text room TooShort = RefusesCall mode kernel (length text) room TooShort

-- what a call with a kernel returns, and that a refusal changes no byte
pub record Answers (mode kernel : ℕ) (text old new : List ℕ) (count status : ℕ) : Type 0 where
  pub refused : (why : Refusal) → (status ≡ status_of why) ↔ Refuses mode kernel text (length old) why
  pub ok : (status ≡ 0) ↔ Accepts mode kernel text (length old)
  pub unchanged : status ≢ 0 → (new ≡ old) × (count ≡ 0)

-- the output of the text stands at the front of the bytes, as each kernel leaves it
pub record Escapes (mode kernel : ℕ) (text old new : List ℕ) (count : ℕ) : Type 0 where
  pub written : IsWritten (lanes_numbered kernel) (mode_numbered mode) text old new count
  pub output : IsEscaping (mode_numbered mode) text (take count new)
  pub agree : AgreesWithEach (mode_numbered mode) text count (take count new)

-- Wherever the text is a piece of a longer one, after a text and before any bytes, the output is a piece of what
-- stands for that.
abbrev pub JoinsPieces : Mode → List ℕ → List ℕ → Type 0
JoinsPieces mode text output = (before after : List ℕ) → IsUtf8 before
    → inner mode (before ++ (text ++ after)) ≡ inner mode before ++ (output ++ inner mode after)

-- the output without its quotation marks stands at the front of the bytes
pub record EscapesInner (mode kernel : ℕ) (text old new : List ℕ) (count : ℕ) : Type 0 where
  pub written : IsInnerWritten (lanes_numbered kernel) (mode_numbered mode) text old new count
  pub headline : IsOnlyOutput (mode_numbered mode)
      (quote_of (mode_numbered mode) ++ (take count new ++ quote_of (mode_numbered mode))) (chars text)
  pub joined : JoinsPieces (mode_numbered mode) text (take count new)

-- The bytes are a text, and the output for it has a length that can be told. Only a text has an output.
pub record HasLength (mode : ℕ) (text : List ℕ) : Type 0 where
  pub names_mode : NamesMode mode
  pub is_text : IsUtf8 text
  pub fits : length (plain (mode_numbered mode) text) < 2 ^ 64

-- Why they have none: first the mode counts, then the text.
abbrev pub RefusesLength : ℕ → List ℕ → Refusal → Type 0
RefusesLength mode text NoMode = ¬ (NamesMode mode)
RefusesLength mode text NoKernel = ⊥
RefusesLength mode text TooLarge = NamesMode mode × (IsUtf8 text × (2 ^ 64 ≤ length (plain (mode_numbered mode) text)))
RefusesLength mode text TooShort = ⊥
RefusesLength mode text NotUtf8 = NamesMode mode × ¬ (IsUtf8 text)

-- they have, and a buffer of so many bytes has room for the output
pub record AcceptsExact (mode : ℕ) (text : List ℕ) (room : ℕ) : Type 0 where
  pub has_length : HasLength mode text
  pub has_room : length (plain (mode_numbered mode) text) ≤ room

-- why it is not written to that buffer
abbrev pub RefusesExact : ℕ → List ℕ → ℕ → Refusal → Type 0
RefusesExact mode text room TooShort = HasLength mode text × (room < length (plain (mode_numbered mode) text))
RefusesExact mode text room NoMode = RefusesLength mode text NoMode
RefusesExact mode text room NoKernel = ⊥
RefusesExact mode text room TooLarge = RefusesLength mode text TooLarge
RefusesExact mode text room NotUtf8 = RefusesLength mode text NotUtf8
