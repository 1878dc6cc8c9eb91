-- The number of levels of a tree, by the number of its entries.
use Rattle.std.proofs.Common.{◌≡◌, ℕ, zero, suc, ◌-◌, ◌*◌, ◌^◌, ◌<◌, ◌≤◌, refl, subst, arith}
use Rattle.counted.specs.Trees.{IsDepth}

power_some : (d : ℕ) → 1 ≤ 8 ^ d
power_some zero = omega arith
power_some (suc d) = let h = power_some d in grind arith

power_three : (d : ℕ) → 8 ^ suc (suc d) ≡ 64 * 8 ^ d
power_three d = grind arith

pub depth_is_two : (depth count : ℕ) → 17 ≤ count → count < 128 → IsDepth depth count → depth ≡ 2
depth_is_two zero count more fewer is = absurd (omega (arith, is.some))
depth_is_two (suc zero) count more fewer is = let one : 16 ^ 1 ≡ 16 = refl in absurd (omega (arith, is.most, one))
depth_is_two (suc (suc zero)) count more fewer is = refl
depth_is_two (suc (suc (suc d))) count more fewer is =
    let less : suc (suc (suc d)) - 1 ≡ suc (suc d) = omega arith in
    let P : ℕ → Type 0 = λ n. 2 * 8 ^ n ≤ count in
    let many : 2 * 8 ^ suc (suc d) ≤ count = subst P less (is.many (omega arith)) in
    absurd (omega (arith, many, power_three d, power_some d))
