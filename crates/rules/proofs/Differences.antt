-- The difference of two numbers as a signed one: when two are equal or ordered, and their sums, multiples and differences. By the two cases of a
-- difference, negative or not. Assumes nothing.
use mathlib.Core.Path.{◌≡◌, refl, ap, ap₂, sym, ◌∙◌}
use mathlib.Core.Bool.{Bool, true, false, cond, not}
use Prim.Native.Nat.{ℕ, zero, suc, ◌+◌, ◌*◌, ◌-◌, ◌≤◌, ◌<◌}
use native.Mathlib.Omega.{arith}
use lib.Dec.{T, ltb, ltb→lt, nltb→le, le→leb}
use lib.IntN.{ℤ, pos, negsuc, neg_ℤ, sub_ℕ, ◌+ℤ◌, ◌-ℤ◌, ◌*ℤ◌}
use lib.Signed.{◌≤ℤ◌, le_z_yes}

pub by_sign : (Q : ℤ → Type 0) (a b : ℕ) → (a < b → Q (negsuc (b - suc a))) → (b ≤ a → Q (pos (a - b))) → Q (sub_ℕ a b)
by_sign Q a b f g = go (ltb a b) (λ t. f (ltb→lt a b t)) (λ t. g (nltb→le a b t))
  where
    go : (c : Bool) → (T c → Q (negsuc (b - suc a))) → (T (not c) → Q (pos (a - b))) → Q (cond c (negsuc (b - suc a)) (pos (a - b)))
    go true f g = f tt
    go false f g = g tt

pub less-le : (a b c d : ℕ) → a + d ≤ c + b → sub_ℕ a b ≤ℤ sub_ℕ c d
less-le a b c d h =
    by_sign (λ z. z ≤ℤ sub_ℕ c d) a b
    (λ l. by_sign (λ z. negsuc (b - suc a) ≤ℤ z) c d
    (λ m. le_z_yes {a = negsuc (b - suc a)} {b = negsuc (d - suc c)} (le→leb (d - suc c) (b - suc a) (omega arith)))
    (λ m. le_z_yes {a = negsuc (b - suc a)} {b = pos (c - d)} tt))
    (λ l. by_sign (λ z. pos (a - b) ≤ℤ z) c d
    (λ m. absurd (omega arith))
    (λ m. le_z_yes {a = pos (a - b)} {b = pos (c - d)} (le→leb (a - b) (c - d) (omega arith))))

pub less-same : (a b c d : ℕ) → a + d ≡ c + b → sub_ℕ a b ≡ sub_ℕ c d
less-same a b c d h =
    by_sign (λ z. z ≡ sub_ℕ c d) a b
    (λ l. by_sign (λ z. negsuc (b - suc a) ≡ z) c d (λ m. ap negsuc (omega arith)) (λ m. absurd (omega arith)))
    (λ l. by_sign (λ z. pos (a - b) ≡ z) c d (λ m. absurd (omega arith)) (λ m. ap pos (omega arith)))

pub less_none : (a : ℕ) → sub_ℕ a 0 ≡ pos a
less_none a = by_sign (λ z. z ≡ pos a) a 0 (λ l. absurd (omega arith)) (λ l. ap pos (omega arith))

pub none-less : (b : ℕ) → sub_ℕ 0 b ≡ neg_ℤ (pos b)
none-less zero = refl
none-less (suc b) = by_sign (λ z. z ≡ negsuc b) 0 (suc b) (λ l. ap negsuc (omega arith)) (λ l. absurd (omega arith))

less-turned : (a b : ℕ) → neg_ℤ (sub_ℕ a b) ≡ sub_ℕ b a
less-turned a b =
    by_sign (λ z. neg_ℤ z ≡ sub_ℕ b a) a b
    (λ l. sym (less_none (suc (b - suc a))) ∙ less-same (suc (b - suc a)) 0 b a (omega arith))
    (λ l. sym (none-less (a - b)) ∙ less-same 0 (a - b) b a (omega arith))

less-plus : (a b c d : ℕ) → sub_ℕ a b +ℤ sub_ℕ c d ≡ sub_ℕ (a + c) (b + d)
less-plus a b c d =
    by_sign (λ z. z +ℤ sub_ℕ c d ≡ sub_ℕ (a + c) (b + d)) a b
    (λ l. by_sign (λ z. negsuc (b - suc a) +ℤ z ≡ sub_ℕ (a + c) (b + d)) c d
    (λ m. sym (none-less (suc (suc ((b - suc a) + (d - suc c))))) ∙ less-same 0 (suc (suc ((b - suc a) + (d - suc c)))) (a + c) (b + d) (omega arith))
    (λ m. less-same (c - d) (suc (b - suc a)) (a + c) (b + d) (omega arith)))
    (λ l. by_sign (λ z. pos (a - b) +ℤ z ≡ sub_ℕ (a + c) (b + d)) c d
    (λ m. less-same (a - b) (suc (d - suc c)) (a + c) (b + d) (omega arith))
    (λ m. sym (less_none ((a - b) + (c - d))) ∙ less-same ((a - b) + (c - d)) 0 (a + c) (b + d) (omega arith)))

pub less-less : (a b c d : ℕ) → sub_ℕ a b -ℤ sub_ℕ c d ≡ sub_ℕ (a + d) (b + c)
less-less a b c d = ap (λ z. sub_ℕ a b +ℤ z) (less-turned c d) ∙ less-plus a b d c

pub less-times : (a b k : ℕ) → sub_ℕ a b *ℤ pos k ≡ sub_ℕ (a * k) (b * k)
less-times a b k =
    by_sign (λ z. z *ℤ pos k ≡ sub_ℕ (a * k) (b * k)) a b
    (λ l.
    let e : a + suc (b - suc a) ≡ b = omega arith in
    sym (none-less (suc (b - suc a) * k)) ∙ less-same 0 (suc (b - suc a) * k) (a * k) (b * k) (omega (arith, ap (λ v. v * k) e)))
    (λ l.
    let e : b + (a - b) ≡ a = omega arith in
    sym (less_none ((a - b) * k)) ∙ less-same ((a - b) * k) 0 (a * k) (b * k) (omega (arith, ap (λ v. v * k) e)))

-- as a subtraction of two signed numbers in code has it
pub signed-less : (a b : ℕ) → pos a -ℤ pos b ≡ sub_ℕ a b
signed-less a b = ap₂ ◌-ℤ◌ (sym (less_none a)) (sym (less_none b)) ∙ less-less a 0 b 0 ∙ less-same (a + 0) (0 + b) a b (omega arith)
