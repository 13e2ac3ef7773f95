-- Laws of chains of links.
-- Assumes nothing.
use Rattle.std.specs.Prelude.{ℕ}
use Rattle.rules.specs.Links.{Joined, here, step}

module _ {R : ℕ → ℕ → Type 0} where
  pub join : {a b c : ℕ} → Joined R a b → Joined R b c → Joined R a c
  join here q = q
  join (step r p) q = step r (join p q)

  pub one : {a b : ℕ} → R a b → Joined R a b
  one r = step r here

  -- Where links have no direction, neither have chains.
  pub back : ((u v : ℕ) → R u v → R v u) → {a b : ℕ} → Joined R a b → Joined R b a
  back s here = here
  back s (step {a} {b} r p) = join (back s p) (one (s a b r))

  -- What every link keeps, a chain keeps.
  pub carry : (P : ℕ → Type 0) → ((u v : ℕ) → R u v → P u → P v) → {a b : ℕ} → Joined R a b → P a → P b
  carry P k here p = p
  carry P k (step {a} {b} r c) p = carry P k c (k a b r p)

-- A chain of fewer links is one of more.
pub wider : {R S : ℕ → ℕ → Type 0} → ((u v : ℕ) → R u v → S u v) → {a b : ℕ} → Joined R a b → Joined S a b
wider f here = here
wider f (step {a} {b} r c) = step (f a b r) (wider f c)
