pub mod Tenth
