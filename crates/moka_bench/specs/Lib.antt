pub mod OwnLives
