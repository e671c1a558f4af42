-- Flags: vectors of bytes that are computed byte by byte, of which the top bits count.
use Rattle.std.proofs.Common.{◌≡◌, ℕ, ◌+◌, ◌-◌, ◌%◌, ◌<◌, Bool, true, cond, List, [], ◌∷◌, length, replicate, map, nat_le, nat_lt, get_or, refl, ap, ◌∙◌, arith}
use Rattle.std.proofs.lemmas.Bool.{agree_below, agree_below_at}
use Rattle.std.proofs.lemmas.Bool.Decides.{nat_tests}
use Rattle.std.proofs.lemmas.List.{length-map, get_or-map}
use Rattle.std.proofs.lemmas.Simd.{map-map, splat_is_map, tops_compared, zip2_of_maps}
use Rattle.std.specs.Simd.Lanes.{zip2, sel_l, top}
use mir.Syntax.{w8}
use Rattle.escape_lanes.specs.Lanes.{AreBelow, AreBytes, flagged_lanes}
use Rattle.escape_lanes.proofs.LaneLemmas.{map-bytes}

-- the lanes xs are flags that are set where bs is
pub record AreFlags (n : ℕ) (xs : List ℕ) (bs : List Bool) : Type 0 where
  pub bytes : AreBytes n xs
  pub lanes : flagged_lanes xs ≡ bs

-- what was computed byte by byte is below the bound of each
pub below-map : (bound : ℕ) (f : ℕ → ℕ) → ((b : ℕ) → b < 256 → f b < bound) → (n : ℕ) (v : List ℕ) → AreBytes n v → AreBelow bound n (map f v)
below-map bound f small n v bytes = record {
  full = length-map v f ∙ bytes.full;
  small = λ k h. rw (get_or-map f v k 0 0 (omega (arith, bytes.full))) (small (get_or v k 0) (bytes.small k h));
}

-- by computation for each of the 256
bytes-by : (f : ℕ → ℕ) (n : ℕ) (v xs : List ℕ) → AreBytes n v → xs ≡ map f v → agree_below (λ b. nat_lt (f b) 256) (λ b. true) 256 ≡ true → AreBytes n xs
bytes-by f n v xs bytes is small =
    let below : (b : ℕ) → b < 256 → f b < 256 = λ b h.
    let test : nat_lt (f b) 256 ≡ true = agree_below_at (λ b. nat_lt (f b) 256) (λ b. true) 256 b small h in
    grind (arith, nat_tests) in
    rw is (below-map 256 f below n v bytes)

-- it flags the lanes that pass a test, likewise
pub flags-by : (f : ℕ → ℕ) (need : ℕ → Bool) (n : ℕ) (v xs : List ℕ) → AreBytes n v → xs ≡ map f v
    → agree_below (λ b. nat_lt (f b) 256) (λ b. true) 256 ≡ true → agree_below (λ b. nat_le 0x80 (f b)) need 256 ≡ true → AreFlags n xs (map need v)
flags-by f need n v xs bytes is small same = record {
  bytes = bytes-by f n v xs bytes is small;
  lanes = ap flagged_lanes is ∙ map-map (λ b. nat_le 0x80 b) f v ∙ map-bytes (λ b. nat_le 0x80 (f b)) need n v bytes same;
}

-- a choice, lane by lane
chosen-map : (c : ℕ → Bool) (p q : ℕ → ℕ) (v : List ℕ) → sel_l (map c v) (map p v) (map q v) ≡ map (λ b. cond (c b) (p b) (q b)) v
chosen-map c p q [] = refl
chosen-map c p q (b ∷ v) = ap (λ ys. cond (c b) (p b) (q b) ∷ ys) (chosen-map c p q v)

-- what a byte leaves of k, which goes down to 0 at most
abbrev pub left_of : ℕ → ℕ → ℕ
left_of k b = (cond (nat_lt k b) b k + (256 - b)) % 256

-- lane by lane
pub left : (k : ℕ) (f : ℕ → ℕ) (n : ℕ) (v xs : List ℕ) → length v ≡ n → xs ≡ map f v
    → zip2 (λ a b. (a + (256 - b)) % 256) (sel_l (map (top 7) (zip2 (λ a b. cond (nat_lt a b) 255 0) (replicate {A = ℕ} n k) xs)) xs (replicate {A = ℕ} n k)) xs ≡ map (λ b. left_of k (f b)) v
left k f n v xs full is =
    let most : replicate {A = ℕ} n k ≡ map (λ b. k) v = splat_is_map v n k full in
    let test : map (top 7) (zip2 (λ a b. cond (nat_lt a b) 255 0) (map (λ b. k) v) (map f v)) ≡ map (λ b. nat_lt k (f b)) v =
    tops_compared w8 nat_lt (map (λ b. k) v) (map f v) ∙ zip2_of_maps nat_lt (λ b. k) f v refl refl in
    let chosen = chosen-map (λ b. nat_lt k (f b)) f (λ b. k) v in
    rw (is, most, test, chosen) (zip2_of_maps (λ a b. (a + (256 - b)) % 256) (λ b. cond (nat_lt k (f b)) (f b) k) f v refl refl)

-- 255 where two vectors that are computed lane by lane pass a test, and 0 in the others
pub picked : (t : ℕ → ℕ → Bool) (f g : ℕ → ℕ) (n : ℕ) (v xs ys : List ℕ) → length v ≡ n → xs ≡ map f v → ys ≡ map g v
    → sel_l (map (top 7) (zip2 (λ a b. cond (t a b) 255 0) xs ys)) (replicate {A = ℕ} n 255) (replicate {A = ℕ} n 0) ≡ map (λ b. cond (t (f b) (g b)) 255 0) v
picked t f g n v xs ys full is also =
    let all : replicate {A = ℕ} n 255 ≡ map (λ b. 255) v = splat_is_map v n 255 full in
    let none : replicate {A = ℕ} n 0 ≡ map (λ b. 0) v = splat_is_map v n 0 full in
    rw (tops_compared w8 t xs ys, zip2_of_maps t f g v is also, all, none) (chosen-map (λ b. t (f b) (g b)) (λ b. 255) (λ b. 0) v)
