pub mod Bonds
