pub mod OneWorld
