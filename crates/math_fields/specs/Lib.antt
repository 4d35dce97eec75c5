pub mod Field
pub mod Normal
pub mod Primes
pub mod Gcd
pub mod Ratios
