-- What a mask tells of the text that its vector holds.
use Rattle.escape_simd.proofs.Words.{◌≡◌, ℕ, zero, suc, ◌+◌, ◌-◌, ◌<◌, ◌≤◌, Bool, true, false, List, [], ◌∷◌, ◌++◌, length, take, drop, get_or, map, replicate, refl, ap, ◌∙◌, arith, length-append, length-take-le, length-drop, drop-drop, drop-take, take-take, length-take, length-map, get_or-take, get_or-drop, get_or-map, get_or_past, get_or_append_left, get_or-append_right, get_or-replicate, length-replicate, first_set, none_set, clear_first, MaskOf, is_clear, lanes_of_mask, whole_mask, Mode, needs_escape}
use Rattle.escape_simd.proofs.Texts.{IsClean}

-- no lane before the first set one is set
pub first_set-before : (bs : List Bool) (k : ℕ) → k < first_set bs → get_or bs k false ≡ false
unfolding first_set
first_set-before (false ∷ bs) zero h = refl
first_set-before (false ∷ bs) (suc k) h = first_set-before bs k (omega arith)
first_set-before xs k h = absurd (omega arith)

-- where some lane is set, the first one is
pub first_set-here : (bs : List Bool) → none_set bs ≡ false → get_or bs (first_set bs) false ≡ true
unfolding first_set none_set
first_set-here (true ∷ bs) h = refl
first_set-here (false ∷ bs) h = first_set-here bs h
first_set-here [] h = cc

-- where none is set, no lane is
pub none_set-at : (bs : List Bool) (k : ℕ) → none_set bs ≡ true → get_or bs k false ≡ false
unfolding none_set
none_set-at (false ∷ bs) (suc k) h = none_set-at bs k h
none_set-at (false ∷ bs) zero h = refl
none_set-at bs k h = grind (arith, get_or_past)

-- cleared lanes are not set
pub none_set-replicate : (n i : ℕ) → get_or (replicate n false) i false ≡ false
none_set-replicate n i = grind (arith, get_or_past, length-replicate, get_or-replicate)

-- a lane of a mask whose first lanes were cleared
pub get_or-clear_first : (n k : ℕ) (bs : List Bool) → n ≤ k → get_or (clear_first n bs) k false ≡ get_or bs k false
get_or-clear_first n k bs h = grind (arith, get_or-append_right, length-replicate, get_or-drop)

-- one of those
pub get_or-cleared_first : (n k : ℕ) (bs : List Bool) → k < n → get_or (clear_first n bs) k false ≡ false
get_or-cleared_first n k bs h = grind (arith, get_or_append_left, length-replicate, none_set-replicate)

-- clean bytes, told one by one
abbrev pub CleanFrom : Mode → List ℕ → ℕ → ℕ → Type 0
CleanFrom mode src from to = (p : ℕ) → from ≤ p → p < to → needs_escape mode (get_or src p 0) ≡ false

-- and as a list
pub clean-list : (mode : Mode) (src : List ℕ) (from n : ℕ) → CleanFrom mode src from (from + n) → IsClean mode (take n (drop from src))
clean-list mode src from n clean k h = grind (arith, length-take {A = ℕ}, get_or-take, get_or-drop)

-- HoldsFlags

-- A mask has the lanes of the bytes that need an escape, of the first `valid` bytes of a text from `at` on. Those before
-- `from` it may have or not, and it has no other lane.
pub record HoldsFlags (mode : Mode) (src : List ℕ) (at valid from : ℕ) (bits : List Bool) : Type 0 where
  pub set : (k : ℕ) → get_or bits k false ≡ true → (k < valid) × (needs_escape mode (get_or src (at + k) 0) ≡ true)
  pub unset : (k : ℕ) → get_or bits k false ≡ false → from ≤ at + k → k < valid → needs_escape mode (get_or src (at + k) 0) ≡ false

-- a mask that is told lane by lane
pub held-by : (mode : Mode) (src : List ℕ) (at valid from : ℕ) (bits : List Bool) → ((k : ℕ) → k < valid → get_or bits k false ≡ needs_escape mode (get_or src (at + k) 0)) → ((k : ℕ) → valid ≤ k → get_or bits k false ≡ false)
    → HoldsFlags mode src at valid from bits
held-by mode src at valid from bits lane past = record { set = λ k s. grind (arith, lane, past); unset = λ k s after h. grind (arith, lane) }

module _ (mode : Mode) (src : List ℕ) (at valid from : ℕ) (bits : List Bool) (held : HoldsFlags mode src at valid from bits) where
  -- bytes before a lane with none set before it are clean
  pub clean_to : at ≤ from → (f : ℕ) → f ≤ valid → ((k : ℕ) → k < f → get_or bits k false ≡ false) → CleanFrom mode src from (at + f)
  clean_to start f few none p after before = let u = held.unset (p - at) in grind (arith, none)

  -- where no lane is set, all bytes are clean
  pub held-none : at ≤ from → none_set bits ≡ true → CleanFrom mode src from (at + valid)
  held-none start none = clean_to start valid (omega arith) (λ k h. none_set-at bits k none)

  module _ (some : none_set bits ≡ false) where
    -- the first set lane is one of the bytes, and needs an escape
    pub first-set : (first_set bits < valid) × (needs_escape mode (get_or src (at + first_set bits) 0) ≡ true)
    first-set = held.set (first_set bits) (first_set-here bits some)

    -- the bytes before it are clean
    pub held-first : at ≤ from → CleanFrom mode src from (at + first_set bits)
    held-first start = let f = first-set.0 in clean_to start (first_set bits) (omega (arith, f)) (λ k h. first_set-before bits k h)

  -- the lanes from a place on
  pub held-cleared : (n : ℕ) → n ≤ from - at → HoldsFlags mode src at valid from (clear_first n bits)
  held-cleared n h = record {
    set = λ k s. let t = held.set k in grind (arith, get_or-clear_first, get_or-cleared_first);
    unset = λ k s later few. let t = held.unset k in grind (arith, get_or-clear_first);
  }

-- a lane that is set after some were cleared
pub cleared-later : (n : ℕ) (bits : List Bool) (k : ℕ) → get_or (clear_first n bits) k false ≡ true → n ≤ k
cleared-later n bits k s = grind (arith, get_or-cleared_first)

-- where the bytes before a place need no escape, no lane is set before it
pub none-before : (mode : Mode) (src : List ℕ) (at start from : ℕ) (bits : List Bool) → ((k : ℕ) → get_or bits k false ≡ true → (start ≤ at + k) × (needs_escape mode (get_or src (at + k) 0) ≡ true))
    → CleanFrom mode src start from → (k : ℕ) → get_or bits k false ≡ true → from ≤ at + k
none-before mode src at start from bits set clean k s = grind arith

-- the lanes of a mask of a text's bytes
pub mask-holds : (mode : Mode) (src : List ℕ) (at valid next : ℕ) (mask : MaskOf) → mask.bytes ≡ take valid (drop at src) → at + valid ≤ length src → at + mask.from ≤ next → HoldsFlags mode src at valid next (lanes_of_mask mode mask)
mask-holds mode src at valid next mask is inside later =
    let f = map (needs_escape mode) mask.bytes in
    let long : length mask.bytes ≡ valid = ap length is ∙ length-take-le valid (drop at src) (omega (arith, length-drop at src, inside)) in
    let lane = λ (k : ℕ) (h : k < valid).
    get_or_append_left f (replicate (64 - length mask.bytes) false) false k (omega (arith, length-map mask.bytes (needs_escape mode), long, h)) ∙ get_or-map (needs_escape mode) mask.bytes k 0 false (omega (arith, long, h))
    ∙ ap (λ xs. needs_escape mode (get_or xs k 0)) is ∙ ap (needs_escape mode) (get_or-take valid (drop at src) k 0 h ∙ get_or-drop at src k 0) in
    let past : (k : ℕ) → valid ≤ k → get_or (f ++ replicate (64 - length mask.bytes) false) k false ≡ false =
    λ k h. get_or-append_right f (replicate (64 - length mask.bytes) false) valid k false (length-map mask.bytes (needs_escape mode) ∙ long) h ∙ none_set-replicate (64 - length mask.bytes) (k - valid) in
    held-cleared mode src at valid next (f ++ replicate (64 - length mask.bytes) false) (held-by mode src at valid next (f ++ replicate (64 - length mask.bytes) false) lane past) mask.from (omega (arith, later))

-- where none is set, the first is no nearer than the last of 64
first_set-none : (bs : List Bool) → none_set bs ≡ true → first_set bs ≡ length bs
unfolding first_set none_set
first_set-none [] none = refl
first_set-none (false ∷ bs) none = ap suc (first_set-none bs none)
first_set-none (true ∷ bs) none = cc

pub mask-past : (mode : Mode) (mask : MaskOf) (k : ℕ) → is_clear mode mask ≡ true → k ≤ 64 → k ≤ first_set (lanes_of_mask mode mask)
mask-past mode mask k none few =
    let f = map (needs_escape mode) mask.bytes in let all = f ++ replicate (64 - length mask.bytes) false in
    omega (arith, few, first_set-none (lanes_of_mask mode mask) none, length-append (replicate mask.from false) (drop mask.from all), length-replicate {A = Bool} mask.from false, length-drop mask.from all, length-append f (replicate (64 - length mask.bytes) false), length-map mask.bytes (needs_escape mode), length-replicate {A = Bool} (64 - length mask.bytes) false)

-- where a mask of a text's bytes flags none, they are clean
pub bytes-clean : (mode : Mode) (src : List ℕ) (at valid : ℕ) (mask : MaskOf) → mask.bytes ≡ take valid (drop at src) → mask.from ≡ 0 → at + valid ≤ length src → is_clear mode mask ≡ true → CleanFrom mode src at (at + valid)
bytes-clean mode src at valid mask bytes from inside none =
    held-none mode src at valid at (lanes_of_mask mode mask) (mask-holds mode src at valid at mask bytes inside (omega (arith, from))) (omega arith) none

pub mask-clean : (mode : Mode) (src : List ℕ) (at valid : ℕ) (mask : MaskOf) → mask ≡ whole_mask (take valid (drop at src)) → at + valid ≤ length src → is_clear mode mask ≡ true → CleanFrom mode src at (at + valid)
mask-clean mode src at valid mask is inside none =
    bytes-clean mode src at valid mask (ap (λ m. m.bytes) is) (ap (λ m. m.from) is) inside none

-- bytes of a text's part, from a place on
pub part-later : (src : List ℕ) (at n from count : ℕ) → from + count ≤ n → take count (drop from (take n (drop at src))) ≡ take count (drop (at + from) src)
part-later src at n from count few =
    let sum : n ≡ from + (n - from) = omega (arith, few) in
    ap (λ k. take count (drop from (take k (drop at src)))) sum ∙ ap (take count) (drop-take from (n - from) (drop at src)) ∙ take-take count (n - from) (drop from (drop at src)) (omega (arith, few)) ∙ ap (take count) (drop-drop from at src)

-- the mask of a text's bytes, without the first ones
pub mask-left : (src : List ℕ) (at n from : ℕ) → from ≤ n → whole_mask (drop from (take n (drop at src))) ≡ whole_mask (take (n - from) (drop (at + from) src))
mask-left src at n from few =
    let sum : n ≡ from + (n - from) = omega (arith, few) in
    ap whole_mask (ap (λ k. drop from (take k (drop at src))) sum ∙ drop-take from (n - from) (drop at src) ∙ ap (take (n - from)) (drop-drop from at src))
