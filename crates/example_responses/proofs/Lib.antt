mod LookUps
mod Others
mod Purges
