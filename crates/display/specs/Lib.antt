pub mod Displaying
