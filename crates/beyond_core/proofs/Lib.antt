mod Apart
mod Places
mod FirstGames
mod Reached
mod Sifted
mod Reread
mod TooMany
